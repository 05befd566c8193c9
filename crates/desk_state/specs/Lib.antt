pub mod Catalog
pub mod Standing
pub mod Deeds
pub mod Answering
pub mod Working
pub mod Following
pub mod Inner
