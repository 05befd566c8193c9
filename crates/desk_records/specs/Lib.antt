pub mod Full
pub mod Effects
pub mod Recall
pub mod Logged
pub mod Tied
