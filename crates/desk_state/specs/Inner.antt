-- What private clauses, invariants of types and proofs alone cite.
pub mod Sums
pub mod Granting
pub mod Wishing
pub mod Growing
