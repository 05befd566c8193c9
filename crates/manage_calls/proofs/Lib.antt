pub mod AloneLemmas
pub mod FreeLemmas
pub mod FloorlessLemmas
pub mod UnusedLemmas
pub mod ManagedLemmas
