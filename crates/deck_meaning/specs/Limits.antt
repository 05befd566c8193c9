-- The limits of a deck (docs/manual/deck.md, "Limits").
use Rattle.std.specs.Prelude.{ℕ}

-- the bytes of a routine's text
abbrev pub most_routine_bytes : ℕ
most_routine_bytes = 65536

-- the classes of one kind
abbrev pub most_classes : ℕ
most_classes = 256

-- the storage groups
abbrev pub most_groups : ℕ
most_groups = 64

-- the volumes of a storage group
abbrev pub most_group_volumes : ℕ
most_group_volumes = 256

-- the cylinders of a volume
abbrev pub most_cylinders : ℕ
most_cylinders = 1182006

-- the cylinders of a unit of cylinder-managed space
abbrev pub cylinders_in_managed : ℕ
cylinders_in_managed = 21
