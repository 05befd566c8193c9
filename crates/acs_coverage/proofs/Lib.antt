pub mod PointLemmas
pub mod CountLemmas
mod StandingLemmas
