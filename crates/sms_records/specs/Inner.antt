-- What private clauses, invariants of types and proofs alone cite.
pub mod FormLaws
pub mod ListLaws
pub mod VariantLaws
pub mod WholeLaws
pub mod TextLaws
pub mod EnumLaws
pub mod PartLaws
pub mod SetLaws
pub mod TraceLaws
pub mod ViewLaws
pub mod FaultLaws
pub mod ReplyLaws
pub mod InputLaws
pub mod Givens
pub mod GivenLaws
pub mod AllocLaws
pub mod RequestLaws
