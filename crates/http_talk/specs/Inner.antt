-- What private clauses, invariants of types and proofs alone cite.
pub mod Answering
pub mod Serving
pub mod Pieces
