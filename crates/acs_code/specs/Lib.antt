pub mod Compiled
pub mod Fields
pub mod Inner
pub mod Machine
pub mod Rights
pub mod Stands
