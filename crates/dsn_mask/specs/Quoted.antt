-- The quoted entries of a list, and what finding a text among them takes (docs/manual/acs-language.md, "Filter lists").
use Rattle.std.specs.Prelude.{◌≤◌, ◌+◌, ◌*◌, ◌^◌, ℕ, Bool, true, false, List, [], ◌∷◌, length, map, slice_get, Option}
use Rattle.std.specs.Prelude.{Some, IsPermutation, IsSorted}
use Rattle.std.specs.Ordering.{nat_cmp}
use Rattle.std.specs.Cmp.Lexicographic.{slice_cmp}
use Rattle.dsn_mask.specs.MaskTest.{mask_fits, simple_fits}
use Rattle.dsn_mask.specs.declared.entry.Entry.{Entry}
use Rattle.dsn_mask.specs.declared.entry.Entry.TheVariants.{Quoted, Dots, Plain}

-- the entry is a quoted one
abbrev pub is_quoted : Entry → Bool
is_quoted (Quoted literal) = true
is_quoted (Dots mask) = false
is_quoted (Plain simple) = false

-- the texts of the quoted entries, in the order of the list
abbrev pub texts_of : List Entry → List (List ℕ)
texts_of [] = []
texts_of (Quoted literal ∷ entries) = literal ∷ texts_of entries
texts_of (Dots mask ∷ entries) = texts_of entries
texts_of (Plain simple ∷ entries) = texts_of entries

-- the text of an entry, if it is a quoted one
abbrev pub text_in : Option Entry → List ℕ
text_in (Some (Quoted literal)) = literal
text_in _ = []

-- the text of the quoted entry at a place
abbrev pub text_at : List Entry → ℕ → List ℕ
text_at entries place = text_in (slice_get entries place)

-- the texts of the quoted entries, in the order of their bytes
abbrev pub AreSortedTexts : List Entry → List (List ℕ) → Type 0
AreSortedTexts entries texts = IsPermutation (texts_of entries) texts × IsSorted (slice_cmp nat_cmp) texts

-- the places of the quoted entries, in the order of their texts
abbrev pub AreSortedPlaces : List Entry → List ℕ → Type 0
AreSortedPlaces entries places = AreSortedTexts entries (map (text_at entries) places)

-- the entry is a mask that fits
abbrev pub fits_as_mask : List ℕ → Entry → Bool
fits_as_mask value (Quoted literal) = false
fits_as_mask value (Dots mask) = mask_fits mask value
fits_as_mask value (Plain simple) = simple_fits simple value

-- no more comparisons than halving takes among the quoted entries
abbrev pub AreFew : ℕ → List Entry → Type 0
AreFew comparisons entries = 2 ^ comparisons ≤ 2 * length (texts_of entries) + 1

-- the count rose by no more than finding a text once in each list takes
pub record RoseByHalving (include exclude : List Entry) (before now : ℕ) : Type 0 where
  pub in_include : ℕ
  pub in_exclude : ℕ
  pub few_in_include : AreFew in_include include
  pub few_in_exclude : AreFew in_exclude exclude
  pub rose : now ≤ before + (in_include + in_exclude)
  pub later : before ≤ now
