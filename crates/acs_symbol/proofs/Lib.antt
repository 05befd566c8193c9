pub mod LiteralLemmas
pub mod CountLemmas
pub mod KeywordLemmas
pub mod ScanLemmas
