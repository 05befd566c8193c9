pub mod FirstLemmas
pub mod LawLemmas
pub mod ReadLemmas
pub mod TellingLemmas
