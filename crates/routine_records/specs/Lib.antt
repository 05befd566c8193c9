pub mod Asked
pub mod EventRecords
pub mod ExplainedRecords
pub mod PointRecords
pub mod CoveredRecords
pub mod Inner
