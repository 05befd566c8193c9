-- The bytes of ACS text, and the texts of its blanks, comments and tokens (docs/manual/acs-language.md).
use Rattle.std.specs.Prelude.{◌≡◌, ◌-◌, ◌==◌, ℕ, Bool, true, false, not, ◌&&◌, ◌||◌, nat_le, List, [], ◌∷◌, codes}
use Rattle.std.specs.List.{list_any}
use Rattle.std.specs.Char.{is_ascii_alphanumeric}
use Rattle.desk_common.specs.Limits.{most_literal_bytes, most_word_bytes}
use Rattle.desk_common.specs.Bytes.{quote, space_byte}
use Rattle.acs_lex.specs.declared.token.TokenForm.{TokenForm}
use Rattle.acs_lex.specs.declared.token.TokenForm.TheVariants.{Word, Variable, Literal, Sign}

-- the byte is one of these
abbrev pub among : List ℕ → ℕ → Bool
among bytes byte = list_any (λ b. b == byte) bytes

-- LF or CR
abbrev pub is_line_end : ℕ → Bool
is_line_end byte = among (10 ∷ 13 ∷ []) byte

-- space, tab, LF or CR
abbrev pub is_blank : ℕ → Bool
is_blank byte = among (space_byte ∷ 9 ∷ 10 ∷ 13 ∷ []) byte

-- a byte of a name: a letter, the same in either case, a digit or _
abbrev pub is_name_byte : ℕ → Bool
is_name_byte byte = is_ascii_alphanumeric byte || among (codes "_") byte

-- a byte of a word: a letter, the same in either case, a digit or one of these
abbrev pub is_word_byte : ℕ → Bool
is_word_byte byte = is_ascii_alphanumeric byte || among (codes "#@$-._%*") byte

-- the ampersand, which begins a variable
abbrev pub is_ampersand : ℕ → Bool
is_ampersand byte = among (codes "&") byte

-- the quote, which begins and ends a literal
abbrev pub is_quote : ℕ → Bool
is_quote byte = among (quote ∷ []) byte

-- a byte of printable ASCII, the space included
abbrev pub is_printable : ℕ → Bool
is_printable byte = nat_le 0x20 byte && nat_le byte 0x7E

-- a byte that may stand between quotes
abbrev pub is_quotable : ℕ → Bool
is_quotable byte = is_printable byte && not (is_quote byte)

-- a sign of one byte
abbrev pub is_single_sign : ℕ → Bool
is_single_sign byte = among (codes "=><|(),") byte

-- the text begins with these bytes
abbrev pub begins : List ℕ → List ℕ → Bool
begins [] text = true
begins (byte ∷ bytes) [] = false
begins (byte ∷ bytes) (b ∷ text) = (byte == b) && begins bytes text

-- the signs of two bytes
abbrev pub double_signs : List (List ℕ)
double_signs = codes "&&" ∷ codes "^=" ∷ codes "^>" ∷ codes "^<" ∷ codes ">=" ∷ codes "<=" ∷ []

-- the two bytes are a sign
abbrev pub is_double_sign : ℕ → ℕ → Bool
is_double_sign first second = list_any (λ sign. begins sign (first ∷ second ∷ [])) double_signs

-- some bytes at the front of a text that all pass the test, and what is behind them
pub data Runs (test : ℕ → Bool) : List ℕ → List ℕ → Type 0 where
  stop : {rest : List ℕ} → Runs test rest rest
  on : {b : ℕ} {bytes rest : List ℕ} → test b ≡ true → Runs test bytes rest → Runs test (b ∷ bytes) rest

-- a text of this form at the front of a text, and what is behind it
pub data IsForm : TokenForm → List ℕ → List ℕ → Type 0 where
  word : {b : ℕ} {bytes rest : List ℕ}
      → is_word_byte b ≡ true → Runs is_word_byte bytes rest → IsForm Word (b ∷ bytes) rest
  variable : {a b : ℕ} {bytes rest : List ℕ}
      → is_ampersand a ≡ true → is_name_byte b ≡ true → Runs is_name_byte bytes rest
      → IsForm Variable (a ∷ b ∷ bytes) rest
  literal : {a b : ℕ} {bytes rest : List ℕ}
      → is_quote a ≡ true → Runs is_quotable bytes (b ∷ rest) → is_quote b ≡ true → IsForm Literal (a ∷ bytes) rest
  double : {a b : ℕ} {rest : List ℕ} → is_double_sign a b ≡ true → IsForm Sign (a ∷ b ∷ rest) rest
  single : {a : ℕ} {rest : List ℕ} → is_single_sign a ≡ true → IsForm Sign (a ∷ rest) rest

-- the bytes that count in a token of so many: those of a literal stand between its quotes
abbrev pub counted_bytes : TokenForm → ℕ → ℕ
counted_bytes Literal bytes = bytes - 2
counted_bytes _ bytes = bytes

-- the most bytes that may count
abbrev pub most_bytes : TokenForm → ℕ
most_bytes Word = most_word_bytes
most_bytes Variable = most_word_bytes
most_bytes Literal = most_literal_bytes
most_bytes Sign = 2

-- the text goes on, behind a comment's first two bytes, to its first end, and what is behind that
pub data IsCommentTail : List ℕ → List ℕ → Type 0 where
  over : {a b : ℕ} {rest : List ℕ}
      → begins (codes "*/") (a ∷ b ∷ rest) ≡ true → IsCommentTail (a ∷ b ∷ rest) rest
  inside : {b : ℕ} {bytes rest : List ℕ}
      → begins (codes "*/") (b ∷ bytes) ≡ false → IsCommentTail bytes rest → IsCommentTail (b ∷ bytes) rest

-- a blank or a comment at the front of a text, and what is behind it
pub data IsGap : List ℕ → List ℕ → Type 0 where
  blank : {b : ℕ} {rest : List ℕ} → is_blank b ≡ true → IsGap (b ∷ rest) rest
  comment : {a b : ℕ} {bytes rest : List ℕ}
      → begins (codes "/*") (a ∷ b ∷ bytes) ≡ true → IsCommentTail bytes rest → IsGap (a ∷ b ∷ bytes) rest
