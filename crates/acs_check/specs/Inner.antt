-- What private clauses, invariants of types and proofs alone cite.
pub mod CheckNumber
pub mod Walk
pub mod Parts
pub mod Rows
pub mod Marks
