pub mod Tests
pub mod Verdicts
pub mod Reopening
pub mod Own
pub mod Inner
