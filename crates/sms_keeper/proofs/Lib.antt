mod KeyLemmas
pub mod SortLemmas
