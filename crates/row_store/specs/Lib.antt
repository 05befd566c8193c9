pub mod Contents
pub mod Order
pub mod Histories
pub mod Outcomes
pub mod Holds
pub mod Memory
pub mod Inner
