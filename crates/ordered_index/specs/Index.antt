-- What is seen of an index.
use Rattle.std.specs.Prelude.{ℕ, List, Option, None, Some, slice_get}
use Rattle.std.specs.declared.cmp.Ordering.{Ordering}
use Rattle.ordered_index.specs.Rows.{row_after}

-- the rows in the order of their keys, and how many more can be put at least
pub record IndexView (K V : Type 0) : Type 0 where
  pub rows : List (K × V)
  pub room : ℕ

-- the first row behind the key, or the first of all
abbrev pub next_row : {K V : Type 0} → (K → K → Ordering) → Option K → List (K × V) → Option (K × V)
next_row R None rows = slice_get rows 0
next_row R (Some k) rows = row_after R k rows
