-- The limits of a journal (docs/manual/limits.md).
use Rattle.std.specs.Prelude.{ℕ}

-- the entries of a journal
abbrev pub most_entries : ℕ
most_entries = 50000

-- the entries of a journal that ask for an activation
abbrev pub most_activations : ℕ
most_activations = 200
