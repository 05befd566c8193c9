pub mod Command
pub mod Asking
