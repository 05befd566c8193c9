pub mod DoorLaws
pub mod VisitLaws
