pub mod Events
pub mod Shortfall
pub mod Coverage
