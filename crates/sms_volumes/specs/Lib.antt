pub mod Holding
pub mod Asking
pub mod Changing
pub mod Viewing
pub mod Next
pub mod StatusRows
pub mod Inner
