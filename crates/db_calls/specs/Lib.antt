pub mod DbWords
pub mod DbEnds
