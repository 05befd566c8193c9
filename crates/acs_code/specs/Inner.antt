-- What private clauses, invariants of types and proofs alone cite.
pub mod Steps
pub mod Upward
pub mod Arms
