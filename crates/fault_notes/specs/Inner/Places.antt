-- Lines and columns of a text, as a person counts them.
use Rattle.std.specs.Prelude.{ℕ, List, ◌+◌, ◌==◌, Bool, count_by, fold, if◌then◌else◌}

-- the byte that ends a line
abbrev pub is_line_feed : ℕ → Bool
is_line_feed byte = byte == 10

-- the line that goes on behind this front of a text, counted from 1
abbrev pub line_behind : List ℕ → ℕ
line_behind front = count_by is_line_feed front + 1

-- the column of the byte that follows, from the column of this byte
abbrev pub next_column : ℕ → ℕ → ℕ
next_column column byte = if is_line_feed byte then 1 else column + 1

-- the column of the byte that follows this front of a text, counted from 1
abbrev pub column_behind : List ℕ → ℕ
column_behind front = fold next_column 1 front
