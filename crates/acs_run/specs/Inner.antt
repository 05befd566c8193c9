-- What private clauses, invariants of types and proofs alone cite.
pub mod Seen
pub mod Lines
pub mod Steps
pub mod Memos
