pub mod Wires
pub mod Events
pub mod Memory
