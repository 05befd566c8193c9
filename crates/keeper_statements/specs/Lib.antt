pub mod Schema
pub mod Found
pub mod Tables
pub mod Tests
pub mod Order
pub mod Changes
pub mod Presence
pub mod Steps
