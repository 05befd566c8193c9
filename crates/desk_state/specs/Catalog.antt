-- The catalog: data sets by name.
use Rattle.std.specs.Prelude.{ℕ, List, Option, bytes_eq, option_map}
use Rattle.std.specs.Cmp.Lexicographic.{slice_cmp}
use Rattle.std.specs.Map.{lookup}
use Rattle.std.specs.Ordering.{nat_cmp}
use Rattle.ordered_index.specs.Index.{next_row}
use Rattle.ordered_index.specs.Rows.{AreRows}
use Rattle.sms_construct.specs.declared.data_set.DataSet.{DataSet}

-- the data sets under their names, and for how many more there is room
pub record CatalogView : Type 0 where
  pub sets : List (List ℕ × DataSet)
  pub room : ℕ

-- the data set of a name
abbrev pub set_in : List ℕ → List (List ℕ × DataSet) → Option DataSet
set_in dsn sets = lookup (bytes_eq dsn) sets

-- the names stand in the order of their bytes
abbrev pub IsCatalog : List (List ℕ × DataSet) → Type 0
IsCatalog sets = AreRows (slice_cmp nat_cmp) sets

-- the first data set behind the name, or the first of all
abbrev pub next_in : Option (List ℕ) → List (List ℕ × DataSet) → Option DataSet
next_in from sets = option_map (λ row. row.1) (next_row (slice_cmp nat_cmp) from sets)
