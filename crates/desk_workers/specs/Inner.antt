-- What private clauses, invariants of types and proofs alone cite.
pub mod Worked
pub mod Merged
pub mod Rooms
pub mod Shared
pub mod Closed
pub mod Planned
