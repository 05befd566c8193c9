pub mod SlateLemmas
pub mod OnwardLemmas
pub mod KeepLemmas
pub mod RunLemmas
pub mod KnownLemmas
pub mod LeaveLemmas
pub mod NameLemmas
