pub mod Limits
pub mod Survey
pub mod Tables
pub mod Names
pub mod Faults
pub mod Inner
