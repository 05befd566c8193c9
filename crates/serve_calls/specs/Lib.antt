pub mod OneHistory
pub mod Seen
pub mod ServedText
pub mod ServeEnds
pub mod ServeStatuses
pub mod Inner
