-- The parts of objects as they are written in JSON.
use Rattle.std.specs.Prelude.{ℕ, List, ◌∷◌, ◌++◌}
use Rattle.json.specs.Print.{quoted}
use Rattle.serde_json.specs.Written.{compact_text}
use Rattle.flat_records.specs.Records.{Named, data_of}

-- a member: its name, a colon, and what it holds
abbrev pub member_piece : Named → List ℕ
member_piece field = quoted field.name ++ 58 ∷ compact_text (data_of field.value)
