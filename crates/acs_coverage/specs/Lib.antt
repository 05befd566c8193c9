pub mod Points
pub mod Counts
pub mod CoverageText
pub mod Standing
pub mod Inner
