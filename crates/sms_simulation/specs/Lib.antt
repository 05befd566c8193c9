pub mod OutcomeText
pub mod Simulation
