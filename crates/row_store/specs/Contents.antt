-- What a transaction makes of the contents under a prefix; rows stand in the order of their keys.
use Rattle.std.specs.Prelude.{◌≡◌, ◌<◌, ◌+◌, ◌⊎◌, ◌++◌, ◌∷◌, [], ℕ, Bool, List, bytes_eq, filter, fold, not, ◌&&◌}
use Rattle.std.specs.Prelude.{drop, length, nat_eq, if◌then◌else◌}
use Rattle.std.specs.Cmp.Lexicographic.{slice_cmp}
use Rattle.std.specs.List.{list_all, list_any, starts_with}
use Rattle.std.specs.Ordering.{is_lt, nat_cmp}
use Rattle.row_store.specs.declared.contents.Contents.{Contents}
use Rattle.row_store.specs.declared.guard.Guard.{Guard}
use Rattle.row_store.specs.declared.row.Row.{Row}
use Rattle.row_store.specs.declared.transaction.Transaction.{Transaction}
use Rattle.row_store.specs.declared.write.Write.{Write}
use Rattle.row_store.specs.declared.write.Write.TheVariants.{Put, PutUnless, Drop, DropFront, DropBelow}

-- the guard behind a change, behind one that is passed over, and of a desk that takes the prefix
abbrev pub following : Guard → Guard
following g = record { epoch = g.epoch; number = g.number + 1 }

abbrev pub passing : Guard → Guard
passing g = record { epoch = g.epoch; number = g.number + 2 }

abbrev pub claimed : Guard → Guard
claimed g = record { epoch = g.epoch + 1; number = 0 }

-- the row has this key
abbrev pub is_at : List ℕ → Row → Bool
is_at key row = bytes_eq row.key key

-- no row has one of these keys
abbrev pub are_absent : List (List ℕ) → List Row → Bool
are_absent keys rows = list_all (λ key. not (list_any (is_at key) rows)) keys

-- the row has this key, and a value above this one
abbrev pub is_above : List ℕ → List ℕ → Row → Bool
is_above key value row = is_at key row && is_lt (slice_cmp nat_cmp value row.value)

-- the key of the row begins with this front
abbrev pub has_front : List ℕ → Row → Bool
has_front front row = starts_with nat_eq row.key front

-- so it does, and what follows comes before this
abbrev pub is_below : List ℕ → List ℕ → Row → Bool
is_below front below row = has_front front row && is_lt (slice_cmp nat_cmp (drop (length front) row.key) below)

-- the rows without those that pass the test
abbrev pub rows_without : (Row → Bool) → List Row → List Row
rows_without goes rows = filter (λ row. not (goes row)) rows

-- the key of the row comes before this one
abbrev pub comes_before : List ℕ → Row → Bool
comes_before key row = is_lt (slice_cmp nat_cmp row.key key)

-- it comes behind this one
abbrev pub comes_behind : List ℕ → Row → Bool
comes_behind key row = is_lt (slice_cmp nat_cmp key row.key)

-- the row in place of the one of its key, or added at the place of its key
abbrev pub put_row : Row → List Row → List Row
put_row row rows = filter (comes_before row.key) rows ++ row ∷ filter (comes_behind row.key) rows

-- the rows after a write
abbrev pub rows_with : List Row → Write → List Row
rows_with rows (Put row) = put_row row rows
rows_with rows (PutUnless row key above) = if list_any (is_above key above) rows then rows else put_row row rows
rows_with rows (Drop key) = rows_without (is_at key) rows
rows_with rows (DropFront front) = rows_without (has_front front) rows
rows_with rows (DropBelow front below) = rows_without (is_below front below) rows

-- the rows after some writes
abbrev pub rows_after : List Write → List Row → List Row
rows_after writes rows = fold rows_with rows writes

-- the contents after a transaction
abbrev pub contents_after : Transaction → Contents → Contents
contents_after t c = record { guard = t.next; rows = rows_after t.writes c.rows }

-- another desk took the prefix since it had this guard
abbrev pub IsTaken : Guard → Contents → Type 0
IsTaken guard c = guard.epoch < c.guard.epoch

-- the second guard comes after the first: of a later epoch, or of the same and a higher number
abbrev pub IsAfter : Guard → Guard → Type 0
IsAfter a b = (a.epoch < b.epoch) ⊎ ((a.epoch ≡ b.epoch) × (a.number < b.number))

-- so it does, or it is the same
abbrev pub IsFrom : Guard → Guard → Type 0
IsFrom a b = (a ≡ b) ⊎ IsAfter a b
