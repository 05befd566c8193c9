pub mod Epochs
pub mod Inner
