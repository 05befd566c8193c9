-- What private clauses and proofs alone cite.
pub mod Pieces
pub mod ClassPieces
pub mod VolumePieces
