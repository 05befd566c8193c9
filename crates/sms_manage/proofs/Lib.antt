pub mod ReleaseLemmas
pub mod ActLemmas
pub mod DayLemmas
pub mod SoFarLemmas
pub mod AskingLemmas
