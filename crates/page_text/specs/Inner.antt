-- What private clauses and proofs alone cite.
pub mod Pieces
pub mod TrackPieces
pub mod GroupPieces
pub mod AnswerPieces
