pub mod ShowLaws
pub mod FillingLaws
