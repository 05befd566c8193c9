mod CoreLemmas
mod DeedLemmas
mod FreshLemmas
pub mod ToldLemmas
mod WorkLemmas
