pub mod Same
pub mod Values
pub mod Damage
pub mod Told
pub mod Reading
pub mod Writing
pub mod Inner
