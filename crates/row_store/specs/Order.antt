-- Rows that stand in the order of their keys.
use Rattle.std.specs.Prelude.{◌≡◌, ◌∷◌, [], List}
use Rattle.std.specs.Cmp.Lexicographic.{slice_cmp}
use Rattle.std.specs.List.{AllByRecursion}
use Rattle.std.specs.Ordering.{nat_cmp}
use Rattle.std.specs.declared.cmp.Ordering.TheVariants.{Less}
use Rattle.row_store.specs.declared.row.Row.{Row}

-- the key of the first row comes before that of the second
abbrev pub ComesBefore : Row → Row → Type 0
ComesBefore a b = slice_cmp nat_cmp a.key b.key ≡ Less

-- each row comes before all that stand behind it, so no two have one key
abbrev pub AreInOrder : List Row → Type 0
AreInOrder [] = Unit {0}
AreInOrder (row ∷ rows) = AllByRecursion (ComesBefore row) rows × AreInOrder rows
