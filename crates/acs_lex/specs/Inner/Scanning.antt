-- One step over a text as a function. It is the means of the scanner: what is promised stands in
-- Tokens and LexFault. In it 47 is a slash.
use Rattle.std.specs.Prelude.{◌==◌, ℕ, Bool, List, [], ◌∷◌, nat_le, codes, Option, Some, None, if◌then◌else◌}
use Rattle.desk_common.specs.Bytes.{star}
use Rattle.acs_lex.specs.declared.token.TokenForm.{TokenForm}
use Rattle.acs_lex.specs.declared.token.TokenForm.TheVariants.{Word, Variable, Literal, Sign}
use Rattle.acs_lex.specs.declared.token.Token.{Token}
use Rattle.acs_lex.specs.declared.fault.LexErr.{LexErr}
use Rattle.acs_lex.specs.declared.fault.LexErr.TheVariants.{OpenComment, OpenLiteral, BadByte, LongWord}
use Rattle.acs_lex.specs.declared.piece.Piece.{Piece}
use Rattle.acs_lex.specs.declared.piece.Piece.TheVariants as piece
use Rattle.acs_lex.specs.Lexical.{is_blank, is_line_end, is_name_byte, is_word_byte, is_ampersand, is_quote}
use Rattle.acs_lex.specs.Lexical.{is_quotable, is_single_sign, is_double_sign, begins, counted_bytes, most_bytes}
use Rattle.acs_lex.specs.Tokens.{size_of, place_of, token_at}

-- what stands at the front of a text, with what is behind it
pub data Front : Type 0 where
  Ends : Front
  Skips : List ℕ → Front
  Takes : Token → List ℕ → Front
  Fails : LexErr → Front

-- the same of the value that the code hands on
abbrev pub front_of : Piece → Front
front_of (piece.Gap rest) = Skips rest.now
front_of (piece.Token one rest) = Takes one rest.now
front_of (piece.Fault err) = Fails err

-- what is behind all bytes at the front that pass the test
abbrev pub after : (ℕ → Bool) → List ℕ → List ℕ
after test [] = []
after test (b ∷ bytes) = if test b then after test bytes else b ∷ bytes

-- what is behind the first end of a comment
abbrev pub after_comment : List ℕ → Option (List ℕ)
after_comment [] = None
after_comment (a ∷ []) = None
after_comment (a ∷ b ∷ bytes) = if begins (codes "*/") (a ∷ b ∷ bytes) then Some bytes else after_comment (b ∷ bytes)

-- the longest token, if it isn't too long
abbrev pub token_front : ℕ → TokenForm → List ℕ → List ℕ → Front
token_front total form text rest =
    if nat_le (counted_bytes form (size_of text rest)) (most_bytes form)
    then Takes (token_at total form text rest) rest
    else Fails (LongWord (place_of total text))

-- a byte that begins nothing
abbrev pub bad_front : ℕ → List ℕ → Front
bad_front total text = Fails (BadByte (place_of total text))

-- a comment, by what was found behind its end
abbrev pub comment_front : ℕ → List ℕ → Option (List ℕ) → Front
comment_front total text None = Fails (OpenComment (place_of total text))
comment_front total text (Some rest) = Skips rest

-- behind a slash
abbrev pub slash_front : ℕ → List ℕ → List ℕ → Front
slash_front total text [] = bad_front total text
slash_front total text (b ∷ bytes) =
    if star == b then comment_front total text (after_comment bytes) else bad_front total text

-- at the first byte behind a quote that may not stand between quotes
abbrev pub literal_front : ℕ → List ℕ → List ℕ → Front
literal_front total text [] = Fails (OpenLiteral (place_of total text))
literal_front total text (b ∷ rest) =
    if is_quote b then token_front total Literal text rest else
    if is_line_end b then Fails (OpenLiteral (place_of total text)) else
    bad_front total (b ∷ rest)

-- behind a first byte that makes no sign of two bytes
abbrev pub single_front : ℕ → List ℕ → ℕ → List ℕ → Front
single_front total text first bytes =
    if is_single_sign first then token_front total Sign text bytes else bad_front total text

-- behind a first byte that may be a sign's
abbrev pub sign_front : ℕ → List ℕ → ℕ → List ℕ → Front
sign_front total text first [] = single_front total text first []
sign_front total text first (b ∷ rest) =
    if is_double_sign first b then token_front total Sign text rest else single_front total text first (b ∷ rest)

-- behind an ampersand
abbrev pub ampersand_front : ℕ → List ℕ → ℕ → List ℕ → Front
ampersand_front total text first [] = bad_front total text
ampersand_front total text first (b ∷ rest) =
    if is_name_byte b then token_front total Variable text (after is_name_byte rest)
    else sign_front total text first (b ∷ rest)

-- one step: what stands at the front of what is left of a text of so many bytes
abbrev pub front : ℕ → List ℕ → Front
front total [] = Ends
front total (b ∷ bytes) =
    if is_blank b then Skips bytes else
    if is_word_byte b then token_front total Word (b ∷ bytes) (after is_word_byte bytes) else
    if is_quote b then literal_front total (b ∷ bytes) (after is_quotable bytes) else
    if is_ampersand b then ampersand_front total (b ∷ bytes) b bytes else
    if 47 == b then slash_front total (b ∷ bytes) bytes else
    sign_front total (b ∷ bytes) b bytes
