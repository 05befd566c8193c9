pub mod Phases
pub mod Inner
