-- What private clauses, invariants of types and proofs alone cite.
pub mod Leading
pub mod Showing
pub mod Barring
pub mod Varied
pub mod Making
pub mod Handing
