pub mod StayLemmas
pub mod KeepingLaws
