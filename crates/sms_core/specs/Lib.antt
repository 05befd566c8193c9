pub mod Core
pub mod Inner
