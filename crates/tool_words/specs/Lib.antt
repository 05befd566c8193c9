pub mod Tool
pub mod Asking
