pub mod EachLemmas
pub mod KeyLemmas
pub mod NameLemmas
pub mod DeckLemmas
pub mod FloorLemmas
pub mod MeetingLemmas
pub mod SizeLemmas
pub mod VerdictLemmas
pub mod SetLemmas
pub mod StatusLemmas
pub mod OpeningLemmas
pub mod OwnDeckLemmas
pub mod OwnReplyLemmas
pub mod OwnLemmas
mod ReopeningLemmas
