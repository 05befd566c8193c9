pub mod DeckLines
pub mod Differences
pub mod RoutineChanges
pub mod DeckChanges
