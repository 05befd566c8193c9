pub mod Due
pub mod Managed
pub mod ManageText
pub mod Inner
