pub mod HistoryLaws
pub mod EndLaws
pub mod ManningLaws
pub mod ShiftLaws
pub mod SendLemmas
pub mod SharedLaws
