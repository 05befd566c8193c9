-- The first fault of a text that has no cut (docs/manual/acs-language.md).
use Rattle.std.specs.Prelude.{◌≡◌, ◌<◌, ℕ, Bool, true, false, List, [], ◌∷◌, length, codes}
use Rattle.acs_lex.specs.declared.token.TokenForm.{TokenForm}
use Rattle.acs_lex.specs.declared.token.Token.{Token}
use Rattle.acs_lex.specs.declared.fault.LexErr.{LexErr}
use Rattle.acs_lex.specs.declared.fault.LexErr.TheVariants.{OpenComment, OpenLiteral, BadByte, LongWord}
use Rattle.acs_lex.specs.Lexical.{Runs, IsForm, IsCommentTail, IsGap, is_blank, is_quote, is_printable, is_quotable}
use Rattle.acs_lex.specs.Lexical.{is_line_end, begins, counted_bytes, most_bytes}
use Rattle.acs_lex.specs.Tokens.{IsLongest, IsToken, size_of, place_of}

-- the text or its line ends here
abbrev pub ends_line : List ℕ → Bool
ends_line [] = true
ends_line (b ∷ bytes) = is_line_end b

-- nothing can go on at the front of what is left of a text of so many bytes, and why
pub data StopsBy (total : ℕ) : List ℕ → LexErr → Type 0 where
  -- a comment begins here and has no end
  open_comment : {a b : ℕ} {bytes : List ℕ}
      → begins (codes "/*") (a ∷ b ∷ bytes) ≡ true → ((rest : List ℕ) → IsCommentTail bytes rest → ⊥)
      → StopsBy total (a ∷ b ∷ bytes) (OpenComment (place_of total (a ∷ b ∷ bytes)))
  -- a literal begins here and meets the end of its line or of the text
  open_literal : {a : ℕ} {bytes rest : List ℕ}
      → is_quote a ≡ true → Runs is_quotable bytes rest → ends_line rest ≡ true
      → StopsBy total (a ∷ bytes) (OpenLiteral (place_of total (a ∷ bytes)))
  -- a literal begins here and meets another byte that isn't printable, at its place
  bad_inside : {a b : ℕ} {bytes rest : List ℕ}
      → is_quote a ≡ true → Runs is_quotable bytes (b ∷ rest) → is_printable b ≡ false → is_line_end b ≡ false
      → StopsBy total (a ∷ bytes) (BadByte (place_of total (b ∷ rest)))
  -- no blank, comment, literal or other token begins here
  bad_byte : {a : ℕ} {bytes : List ℕ}
      → is_blank a ≡ false → begins (codes "/*") (a ∷ bytes) ≡ false → is_quote a ≡ false
      → ((form : TokenForm) (rest : List ℕ) → IsForm form (a ∷ bytes) rest → ⊥)
      → StopsBy total (a ∷ bytes) (BadByte (place_of total (a ∷ bytes)))
  -- the longest token here is too long
  too_long : {form : TokenForm} {text rest : List ℕ}
      → IsLongest form text rest → most_bytes form < counted_bytes form (size_of text rest)
      → StopsBy total text (LongWord (place_of total text))

-- a front of what is left is cut, and there nothing can go on
pub data FirstStopsBy (total : ℕ) : List ℕ → LexErr → Type 0 where
  here : {text : List ℕ} {err : LexErr} → StopsBy total text err → FirstStopsBy total text err
  behind_gap : {text rest : List ℕ} {err : LexErr}
      → IsGap text rest → FirstStopsBy total rest err → FirstStopsBy total text err
  behind_token : {text rest : List ℕ} {one : Token} {err : LexErr}
      → IsToken total text one rest → FirstStopsBy total rest err → FirstStopsBy total text err

-- the fault of a text that is met first from the left
abbrev pub IsFirstLexFault : List ℕ → LexErr → Type 0
IsFirstLexFault text err = FirstStopsBy (length text) text err
