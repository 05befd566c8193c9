pub mod EmptyLemmas
pub mod ExplainedLemmas
pub mod LawLemmas
pub mod PushLemmas
pub mod TurnLemmas
pub mod ViewLemmas
