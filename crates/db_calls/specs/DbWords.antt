-- The words that ask for a run over a database (docs/manual/script.md, "The program").
use Rattle.std.specs.Prelude.{ℕ, ◌&&◌, List, [], ◌∷◌, Option, None, Some, bytes_eq, codes, if◌then◌else◌}

-- the file: `run`, `--db` and its path; no other words name one
abbrev pub database_in : List (List ℕ) → Option (List ℕ)
database_in [] = None
database_in (word ∷ []) = None
database_in (word ∷ option ∷ []) = None
database_in (word ∷ option ∷ file ∷ []) =
    if bytes_eq word (codes "run") && bytes_eq option (codes "--db") then Some file else None
database_in (word ∷ option ∷ file ∷ more ∷ words) = None
