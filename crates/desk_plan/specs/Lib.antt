pub mod Plan
pub mod Numbering
pub mod Sharing
pub mod Inner
