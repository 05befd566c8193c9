pub mod AssignedLemmas
pub mod ExactLemmas
pub mod NameLemmas
pub mod PlaceLemmas
pub mod TableLemmas
pub mod WordLemmas
