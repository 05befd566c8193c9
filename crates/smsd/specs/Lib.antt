pub mod Served
pub mod Ends
pub mod Inner
