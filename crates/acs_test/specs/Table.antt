-- The records of a table (docs/manual/tool.md, "Comparing two decks").
use Rattle.std.specs.Prelude.{ℕ, List}
use Rattle.csv.specs.Reading.{AreRecords, default_config, strip_bom}
use Rattle.csv.specs.declared.parser.State.TheVariants.{StartRecord}

-- the bytes of a table, without a byte order mark at their front, are these records
abbrev pub IsTable : List ℕ → List (List (List ℕ)) → Type 0
IsTable bytes records = AreRecords default_config StartRecord (strip_bom bytes) records
