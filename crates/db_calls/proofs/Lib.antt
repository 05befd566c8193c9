pub mod ReadiedLemmas
