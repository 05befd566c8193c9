-- What private clauses, invariants of types and proofs alone cite.
pub mod Fronts
pub mod NamesFields
pub mod Text
pub mod TextFields
pub mod Words
