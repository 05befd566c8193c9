mod GrantLemmas
mod RunLemmas
pub mod OrderLemmas
