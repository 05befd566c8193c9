pub mod ByteLemmas
pub mod RunLemmas
pub mod FormLemmas
pub mod FrontLemmas
pub mod OneFrontLemmas
pub mod CutLemmas
pub mod PlaceLemmas
