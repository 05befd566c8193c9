-- What private clauses, invariants of types and proofs alone cite.
pub mod Stops
pub mod Turns
pub mod Under
pub mod Views
