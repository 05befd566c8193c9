pub mod Wants
pub mod Grammar
pub mod Places
pub mod ParseFault
pub mod Inner
