pub mod ListLemmas
pub mod StatusRowLemmas
pub mod PartLemmas
pub mod PlacingLemmas
pub mod HoldLemmas
pub mod CatalogLemmas
pub mod LogLemmas
