pub mod CaseScripts
