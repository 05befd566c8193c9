pub mod PageText
pub mod Exchange
pub mod Flow
pub mod Inner
