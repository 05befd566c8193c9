-- Places behind parts of a text.
use Rattle.std.proofs.Common.{◌≡◌, ◌==◌, ◌≤◌, ◌<◌, ◌^◌, ◌+◌, ◌-◌, ◌++◌, ℕ, zero, suc, get_or, Bool, true, false, List, [], ◌∷◌, length, take, drop, refl, sym, ◌∙◌, ap, arith, if◌then◌else◌}
use Rattle.std.proofs.lemmas.Grind.{common_steps}
use Rattle.acs_lex.specs.declared.token.Token.{Token}
use Rattle.acs_lex.specs.Tokens.{InOrder}
use Rattle.acs_places.specs.declared.place.Place.{Place}
use Rattle.acs_places.specs.Places.{behind_all, behind_byte, first_place, place_in}

behind_parts : (place : Place) (one two : List ℕ) → behind_all place (one ++ two) ≡ behind_all (behind_all place one) two
behind_parts place [] two = refl
behind_parts place (byte ∷ one) two = behind_parts (behind_byte place byte) one two

-- the place behind a byte that is a line feed, and one behind another byte
abbrev pick : Bool → Place → Place
pick true place = record { line = place.line + 1; column = 1 }
pick false place = record { line = place.line; column = place.column + 1 }

pick_line : (b : Bool) (place : Place) → (pick b place).line ≤ place.line + 1
pick_line true place = omega arith
pick_line false place = omega arith

pick_column : (b : Bool) (place : Place) → (pick b place).column ≤ place.column + 1
pick_column true place = omega arith
pick_column false place = omega arith

is_pick : (b : Bool) (place one two : Place) → one ≡ pick true place → two ≡ pick false place → (if b then one else two) ≡ pick b place
is_pick true place one two e f = e
is_pick false place one two e f = f

-- one byte is at most a line or a column
pub next_line : (place : Place) (byte : ℕ) → (behind_byte place byte).line ≤ place.line + 1
next_line place byte = rw (is_pick (byte == 10) place _ _ refl refl) (pick_line (byte == 10) place)

pub next_column : (place : Place) (byte : ℕ) → (behind_byte place byte).column ≤ place.column + 1
next_column place byte = rw (is_pick (byte == 10) place _ _ refl refl) (pick_column (byte == 10) place)

all_lines : (place : Place) (bytes : List ℕ) → (behind_all place bytes).line ≤ place.line + length bytes
all_lines place [] = omega arith
all_lines place (byte ∷ bytes) = omega (arith, next_line place byte, all_lines (behind_byte place byte) bytes)

all_columns : (place : Place) (bytes : List ℕ) → (behind_all place bytes).column ≤ place.column + length bytes
all_columns place [] = omega arith
all_columns place (byte ∷ bytes) = omega (arith, next_column place byte, all_columns (behind_byte place byte) bytes)

-- a place is at most one more than the bytes that were passed
taken : (text : List ℕ) (passed : ℕ) → length (take passed text) ≤ passed
taken text passed = grind (arith, common_steps)

line_in : (text : List ℕ) (passed : ℕ) → (place_in text passed).line ≤ passed + 1
line_in text passed = omega (arith, all_lines first_place (take passed text), taken text passed)

column_in : (text : List ℕ) (passed : ℕ) → (place_in text passed).column ≤ passed + 1
column_in text passed = omega (arith, all_columns first_place (take passed text), taken text passed)

-- no count of lines or columns is too great
pub lines_fit : (text : List ℕ) (place : Place) (from to : ℕ) → place ≡ place_in text from → from ≤ to → to ≤ length text → length text < 2 ^ 32 → place.line + length (take (to - from) (drop from text)) < 2 ^ 63
lines_fit text place from to e h k short = omega (arith, ap (λ (p : Place). p.line) e, line_in text from, taken (drop from text) (to - from))

pub columns_fit : (text : List ℕ) (place : Place) (from to : ℕ) → place ≡ place_in text from → from ≤ to → to ≤ length text → length text < 2 ^ 32 → place.column + length (take (to - from) (drop from text)) < 2 ^ 63
columns_fit text place from to e h k short = omega (arith, ap (λ (p : Place). p.column) e, column_in text from, taken (drop from text) (to - from))

fronts : (text : List ℕ) (from to : ℕ) → from ≤ to → take to text ≡ take from text ++ take (to - from) (drop from text)
fronts text from zero h = grind (arith, common_steps)
fronts [] zero (suc to) h = grind (arith, common_steps)
fronts (byte ∷ text) zero (suc to) h = grind (arith, common_steps)
fronts [] (suc from) (suc to) h = grind (arith, common_steps)
fronts (byte ∷ text) (suc from) (suc to) h =
    let same : to - from ≡ suc to - suc from = omega arith in
    ap (λ rest. byte ∷ rest) (fronts text from to (omega arith)) ∙ ap (λ n. byte ∷ (take from text ++ take n (drop from text))) same

-- a place further on
pub further : (text : List ℕ) (from to : ℕ) → from ≤ to → place_in text to ≡ behind_all (place_in text from) (take (to - from) (drop from text))
further text from to h = ap (behind_all first_place) (fronts text from to h) ∙ behind_parts first_place (take from text) (take (to - from) (drop from text))

-- the first token of those that are left stands between two places, and the others behind it
ordered : (from to : ℕ) (tokens : List Token) → InOrder from to tokens → from ≤ to
ordered from to [] h = h
ordered from to (one ∷ tokens) h = omega (arith, ordered one.to to tokens h.2)

weaker : (from behind to : ℕ) (tokens : List Token) → from ≤ behind → InOrder behind to tokens → InOrder from to tokens
weaker from behind to [] h o = omega arith
weaker from behind to (one ∷ tokens) h o = (omega arith, o.1, o.2)

pub record Stands (at to : ℕ) (token : Token) (rest : List Token) : Type 0 where
  pub begins : at ≤ token.from
  pub within : token.from ≤ to
  pub order : InOrder token.from to rest

pub stands : (at to i : ℕ) (tokens : List Token) (other : Token) → i < length tokens → InOrder at to (drop i tokens) → Stands at to (get_or tokens i other) (drop (suc i) tokens)
stands at to i [] other h o = absurd (omega arith)
stands at to zero (one ∷ tokens) other h o = record {
  begins = o.0;
  within = omega (arith, ordered one.to to tokens o.2);
  order = weaker one.from one.to to tokens (omega arith) o.2;
}
stands at to (suc i) (one ∷ tokens) other h o = stands at to i tokens other (omega arith) o
