-- The cut of a text into tokens (docs/manual/acs-language.md).
use Rattle.std.specs.Prelude.{◌≤◌, ◌<◌, ◌-◌, ℕ, List, [], ◌∷◌, length, slice_range}
use Rattle.std.specs.Str.{str_to_ascii_uppercase}
use Rattle.acs_lex.specs.declared.token.TokenForm.{TokenForm}
use Rattle.acs_lex.specs.declared.token.Token.{Token}
use Rattle.acs_lex.specs.Lexical.{IsForm, IsGap, counted_bytes, most_bytes}

-- a token of this form at the front, and no token at the front is longer
pub record IsLongest (form : TokenForm) (text rest : List ℕ) : Type 0 where
  pub is : IsForm form text rest
  pub most : (other : TokenForm) (behind : List ℕ) → IsForm other text behind → length rest ≤ length behind

-- how many bytes stand before what is behind
abbrev pub size_of : List ℕ → List ℕ → ℕ
size_of text rest = length text - length rest

-- the place in a text of so many bytes at which this is left
abbrev pub place_of : ℕ → List ℕ → ℕ
place_of total text = total - length text

-- the token of this form between what is left of a text of so many bytes and what is behind it
abbrev pub token_at : ℕ → TokenForm → List ℕ → List ℕ → Token
token_at total form text rest = record { form = form; from = place_of total text; to = place_of total rest }

-- a token at the front of what is left of a text of so many bytes: the longest, and not too long
pub data IsToken (total : ℕ) : List ℕ → Token → List ℕ → Type 0 where
  token : {form : TokenForm} {text rest : List ℕ}
      → IsLongest form text rest → counted_bytes form (size_of text rest) ≤ most_bytes form
      → IsToken total text (token_at total form text rest) rest

-- what is left of a text of so many bytes is blanks, comments and these tokens, and nothing else
pub data CutsInto (total : ℕ) : List ℕ → List Token → Type 0 where
  nothing_left : CutsInto total [] []
  after_gap : {text rest : List ℕ} {tokens : List Token}
      → IsGap text rest → CutsInto total rest tokens → CutsInto total text tokens
  after_token : {text rest : List ℕ} {one : Token} {tokens : List Token}
      → IsToken total text one rest → CutsInto total rest tokens → CutsInto total text (one ∷ tokens)

-- the cut of a text: blanks, comments and these tokens, each the longest at its place
abbrev pub IsCut : List ℕ → List Token → Type 0
IsCut text tokens = CutsInto (length text) text tokens

-- the tokens lie in order between two places, and none is empty
abbrev pub InOrder : ℕ → ℕ → List Token → Type 0
InOrder from to [] = from ≤ to
InOrder from to (one ∷ tokens) = (from ≤ one.from) × (one.from < one.to) × InOrder one.to to tokens

-- the bytes of the text that the token covers
abbrev pub token_text : List ℕ → Token → List ℕ
token_text text one = slice_range text one.from one.to

-- its text with the letters in upper case, as all tokens but literals are read
abbrev pub upper_text : List ℕ → Token → List ℕ
upper_text text one = str_to_ascii_uppercase (token_text text one)

-- the token lies in the text, and its own bytes, alone, are a text of its form and not too many
pub record IsTokenOf (text : List ℕ) (one : Token) : Type 0 where
  pub not_empty : one.from < one.to
  pub within : one.to ≤ length text
  pub is : IsForm one.form (token_text text one) []
  pub fits : counted_bytes one.form (length (token_text text one)) ≤ most_bytes one.form
