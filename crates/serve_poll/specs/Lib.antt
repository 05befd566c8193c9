pub mod Visitors
pub mod Halls
pub mod Inner
