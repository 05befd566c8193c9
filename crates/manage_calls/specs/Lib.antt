pub mod Reserved
pub mod ManagedRun
pub mod ManageEnds
pub mod Inner
pub use Rattle.desk_common.specs.Causes
pub use Rattle.desk_common.specs.Fronts
