pub mod UpperLemmas
pub mod PushLemmas
pub mod SlateLemmas
pub mod Examples
mod NameLemmas
pub mod TableLemmas
pub mod NumberLemmas
