pub mod NumberLemmas
pub mod LeastLemmas
pub mod FoldLemmas
pub mod WalkLemmas
pub mod NodeLemmas
pub mod FirstLemmas
pub mod NamedLemmas
