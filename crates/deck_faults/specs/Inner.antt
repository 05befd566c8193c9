-- What private clauses, invariants of types and proofs alone cite.
pub mod Telling
