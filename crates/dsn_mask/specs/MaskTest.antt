-- What a mask fits, as tests that compute.
use Rattle.std.specs.Prelude.{ℕ, Bool, true, false, List, [], ◌∷◌, ◌==◌, ◌&&◌, ◌||◌, if◌then◌else◌}
use Rattle.desk_common.specs.Bytes.{star}
use Rattle.dsn_mask.specs.Qualifiers.{qualifiers_of}

-- the test passes at what is behind some item
abbrev pub passes_behind : {I : Type 0} → (List I → Bool) → List I → Bool
passes_behind test [] = false
passes_behind test (item ∷ items) = test items || passes_behind test items

-- the test passes at some suffix
abbrev pub passes_somewhere : {I : Type 0} → (List I → Bool) → List I → Bool
passes_somewhere test items = test items || passes_behind test items

-- the first item passes the one test, and what is behind it the other
abbrev pub takes_first : {I : Type 0} → (I → Bool) → (List I → Bool) → List I → Bool
takes_first one test [] = false
takes_first one test (item ∷ items) = one item && test items

-- no item is left
abbrev pub is_empty : {I : Type 0} → List I → Bool
is_empty [] = true
is_empty (item ∷ items) = false

-- symbols against items: a star stands for zero or more items, another symbol for one item that it takes
abbrev pub fits_items : {S I : Type 0} → (S → Bool) → (S → I → Bool) → List S → List I → Bool
fits_items is_any takes [] items = is_empty items
fits_items is_any takes (symbol ∷ symbols) items =
    if is_any symbol then passes_somewhere (fits_items is_any takes symbols) items
    else takes_first (takes symbol) (fits_items is_any takes symbols) items

-- a star
abbrev pub is_star : ℕ → Bool
is_star symbol = symbol == star

-- `%` (37) takes any byte, another symbol its equal
abbrev pub takes_byte : ℕ → ℕ → Bool
takes_byte symbol byte = symbol == 37 || symbol == byte

-- a piece fits the bytes
abbrev pub piece_fits : List ℕ → List ℕ → Bool
piece_fits piece bytes = fits_items is_star takes_byte piece bytes

-- the qualifier `**`
abbrev pub is_two_stars : List ℕ → Bool
is_two_stars (first ∷ second ∷ []) = first == star && second == star
is_two_stars _ = false

-- the pieces of a mask fit the qualifiers
abbrev pub qualifiers_fit : List (List ℕ) → List (List ℕ) → Bool
qualifiers_fit pieces qualifiers = fits_items is_two_stars piece_fits pieces qualifiers

-- a mask fits the value
abbrev pub mask_fits : List ℕ → List ℕ → Bool
mask_fits mask value = qualifiers_fit (qualifiers_of mask) (qualifiers_of value)

-- a simple mask fits the value
abbrev pub simple_fits : List ℕ → List ℕ → Bool
simple_fits simple value = piece_fits simple value
