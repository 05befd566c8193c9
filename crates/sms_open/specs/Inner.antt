-- What private clauses, invariants of types and proofs alone cite.
pub mod Keys
pub mod Targets
pub mod Meeting
