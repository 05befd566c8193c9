pub mod Told
pub mod FindingRecords
pub mod Inner
