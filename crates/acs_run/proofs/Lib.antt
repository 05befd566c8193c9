pub mod QualifierLemmas
pub mod VariableLemmas
pub mod CutLemmas
pub mod LineLemmas
pub mod StepLemmas
pub mod KeptLemmas
pub mod MemoLemmas
