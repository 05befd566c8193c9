-- What is kept of the lines of a run.
use Rattle.std.specs.Prelude.{◌-◌, ◌^◌, ℕ, List, length, min, take}
use Rattle.desk_common.specs.Limits.{most_lines}

-- the lines that are kept, and the number of the others
pub record KeptLines : Type 0 where
  pub kept : List (List ℕ)
  pub more : ℕ

-- as many as are kept of one kind from the first on, and how many others there are, as far as 32 bits count
abbrev pub kept_lines_of : List (List ℕ) → KeptLines
kept_lines_of lines = record { kept = take most_lines lines; more = min (length lines - most_lines) (2 ^ 32 - 1) }
