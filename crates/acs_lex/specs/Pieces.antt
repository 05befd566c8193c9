-- What stands at the front of what is left of a text (docs/manual/acs-language.md).
use Rattle.std.specs.Prelude.{ℕ, List}
use Rattle.acs_lex.specs.declared.piece.Piece.{Piece}
use Rattle.acs_lex.specs.declared.piece.Piece.TheVariants.{Gap, Token, Fault}
use Rattle.acs_lex.specs.Lexical.{IsGap}
use Rattle.acs_lex.specs.Tokens.{IsToken}
use Rattle.acs_lex.specs.LexFault.{StopsBy}

-- a blank or a comment with what is behind it, a token with what is behind it, or the fault that is met
abbrev pub IsPiece : ℕ → List ℕ → Piece → Type 0
IsPiece total text (Gap rest) = IsGap text rest.now
IsPiece total text (Token one rest) = IsToken total text one rest.now
IsPiece total text (Fault err) = StopsBy total text err
