pub mod HoldLemmas
pub mod EngineLemmas
pub mod HistoryLemmas
pub mod OrderLemmas
