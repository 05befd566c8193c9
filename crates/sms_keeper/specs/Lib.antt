pub mod Tables
pub mod Told
pub mod Suits
pub mod Faults
pub mod Log
pub mod Loading
pub mod Inner
