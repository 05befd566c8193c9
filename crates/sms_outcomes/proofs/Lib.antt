pub mod RecordLemmas
mod PieceLemmas
