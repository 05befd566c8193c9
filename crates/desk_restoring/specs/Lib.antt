pub mod Opened
pub mod Inner
