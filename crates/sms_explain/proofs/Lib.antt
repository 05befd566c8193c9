pub mod ExplanationLemmas
