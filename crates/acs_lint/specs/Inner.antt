-- What private clauses and proofs alone cite.
pub mod Exits
pub mod Fronts
pub mod Parts
