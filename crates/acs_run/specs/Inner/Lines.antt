-- Names in a line.
use Rattle.std.specs.Prelude.{◌++◌, ℕ, List, [], ◌∷◌}
use Rattle.desk_common.specs.Bytes.{comma}

-- further names, each behind a comma
abbrev pub after_commas : List (List ℕ) → List ℕ
after_commas [] = []
after_commas (name ∷ names) = (comma ∷ name) ++ after_commas names
