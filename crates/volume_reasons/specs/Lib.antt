pub mod EmptyDesk
pub mod Reasons
pub mod VolumesText
pub mod Explained
pub mod Inner
