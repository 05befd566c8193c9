pub mod ConfigurationLemmas
pub mod EitherLemmas
pub mod LookupLemmas
pub mod OrderLemmas
pub mod OutcomeLemmas
pub mod ReadingLemmas
pub mod SortedLemmas
pub mod VersionLemmas
