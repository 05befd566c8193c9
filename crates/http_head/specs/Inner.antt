-- What private clauses, invariants of types and proofs alone cite.
pub mod Feeds
pub mod Full
pub mod Pieces
