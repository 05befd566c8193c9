-- What private clauses, invariants of types and proofs alone cite.
pub mod GapChanges
pub mod GapLists
pub mod Measures
pub mod Trees
