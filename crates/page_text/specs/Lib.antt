pub mod PageBodies
pub mod GroupBodies
pub mod TrackBodies
pub mod AnswerBodies
pub mod RefusalText
pub mod Inner
