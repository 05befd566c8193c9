pub mod Lexical
pub mod Tokens
pub mod LexFault
pub mod Inner
pub mod Pieces
