pub mod AskedLemmas
pub mod ExplainedLemmas
pub mod CoveredLemmas
