pub mod AddLemmas
pub mod HoldLemmas
pub mod TurnLemmas
pub mod JobLemmas
