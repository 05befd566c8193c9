-- The difference between two lists of lines.
use Rattle.std.specs.Prelude.{ℕ, List, [], ◌∷◌, ◌++◌, bytes_eq, flat_map, if◌then◌else◌}
use Rattle.std.specs.List.{list_any}

-- the signs of what is gone, and of what is new

abbrev pub minus : ℕ
minus = 45

abbrev pub plus : ℕ
plus = 43

-- a line behind a sign and a blank, with its line end
abbrev pub signed : ℕ → List ℕ → List ℕ
signed sign line = sign ∷ 32 ∷ (line ++ 10 ∷ [])

-- a line that the others haven't
abbrev pub missing_line : ℕ → List (List ℕ) → List ℕ → List ℕ
missing_line sign others line = if list_any (bytes_eq line) others then [] else signed sign line

-- the lines that the others haven't, in their order
abbrev pub missing : ℕ → List (List ℕ) → List (List ℕ) → List ℕ
missing sign lines others = flat_map (missing_line sign others) lines

-- the lines that are gone, and then those that are new
abbrev pub difference : List (List ℕ) → List (List ℕ) → List ℕ
difference before after = missing minus before after ++ missing plus after before
