-- The limit of what is told of a deck (docs/manual/tool.md, "Every fault of a deck").
use Rattle.std.specs.Prelude.{ℕ}

-- the faults of a deck that are told
abbrev pub most_faults : ℕ
most_faults = 100
