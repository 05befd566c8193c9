pub mod Run
pub mod ExitStatus
pub mod Headline
pub mod RunFault
pub use Rattle.desk_common.specs.Causes
pub use Rattle.desk_common.specs.Fronts
