-- The order in which the rows of a table are read, and the columns that are read.
use Rattle.std.specs.Prelude.{List, [], ◌∷◌, if◌then◌else◌}
use Rattle.std.specs.declared.cmp.Ordering.{Ordering}
use Rattle.std.specs.Ordering.{is_lt, on, then_cmp}
use Rattle.sqlite.specs.Order.{Row}
use Rattle.sqlite_value.specs.Order.{column, value_cmp}

-- an element put behind those that are lower, and before the others
abbrev pub put_in : {X : Type 0} → (X → X → Ordering) → X → List X → List X
put_in order x [] = x ∷ []
put_in order x (y ∷ ys) = if is_lt (order y x) then y ∷ put_in order x ys else x ∷ y ∷ ys

-- the elements in this order; those that are neither lower nor higher stay as they stood
abbrev pub in_order : {X : Type 0} → (X → X → Ordering) → List X → List X
in_order order [] = []
in_order order (x ∷ xs) = put_in order x (in_order order xs)

-- by the first column: a data set's name, a deck's number, a job
abbrev pub by_first : Row → Row → Ordering
by_first = on (λ row. column row 0) value_cmp

-- by the first column, and then by the second: job and number, kind and name
abbrev pub by_two : Row → Row → Ordering
by_two = then_cmp by_first (on (λ row. column row 1) value_cmp)

-- the columns of a data set, of a floor
abbrev pub two_columns : Row → Row
two_columns row = column row 0 ∷ column row 1 ∷ []

-- the columns of a status
abbrev pub three_columns : Row → Row
three_columns row = column row 0 ∷ column row 1 ∷ column row 2 ∷ []

-- the columns of a kept reply
abbrev pub five_columns : Row → Row
five_columns row = column row 0 ∷ column row 1 ∷ column row 2 ∷ column row 3 ∷ column row 4 ∷ []

-- the columns of a deck: the number of its row, and its bytes
abbrev pub deck_columns : Row → Row
deck_columns row = column row 0 ∷ column row 2 ∷ []
