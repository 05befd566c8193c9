pub mod Shows
pub mod Filling
