pub mod PutLemmas
pub mod PieceLemmas
pub mod TrackLemmas
pub mod GroupLemmas
pub mod AnswerLemmas
