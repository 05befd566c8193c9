pub mod Outcomes
pub mod ItemRecords
pub mod SimulatedRecords
pub mod Inner
