-- What private clauses and proofs alone cite.
pub mod Counting
pub mod Parts
