-- What a desk begins with that goes on from recorded rows (docs/manual/records.md).
use Rattle.std.specs.Prelude.{ℕ, max, List, [], ◌∷◌, Option}
use Rattle.sms_construct.specs.Configuration.{Configuration}
use Rattle.sms_keeper.specs.declared.kept_row.KeptRow.{KeptRow}
use Rattle.sms_keeper.specs.declared.rows.Rows.{Rows}
use Rattle.desk_law.specs.State.{Opening}

-- the greatest place of a kept reply, 0 without one
abbrev pub greatest_place : List KeptRow → ℕ
greatest_place [] = 0
greatest_place (row ∷ rows) = max row.place (greatest_place rows)

-- the opening of these rows and this configuration: new entries come behind all whose replies are kept
abbrev pub opening_of : Rows → Option Configuration → Opening
opening_of rows config = record { rows = rows; config = config; base = greatest_place rows.replies }

-- the same, and new entries come behind this place too
abbrev pub opening_behind : ℕ → Rows → Option Configuration → Opening
opening_behind place rows config = record { rows = rows; config = config; base = max place (greatest_place rows.replies) }
