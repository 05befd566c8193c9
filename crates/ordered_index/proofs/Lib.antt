mod AddLemmas
mod ChunkLemmas
mod EitherLemmas
mod FirstLemmas
mod PartLemmas
mod RowLemmas
mod SortedLemmas
mod SpotLemmas
pub mod LookupLemmas
