-- The numbers of one row.
use Rattle.std.specs.Prelude.{ℕ, ◌&&◌, Bool, List, bytes_eq, nat_le, if◌then◌else◌}
use Rattle.sms_keeper.specs.Tables.{is_floor_of}
use Rattle.sms_keeper.specs.declared.floor.Floor.{Floor}
use Rattle.sms_keeper.specs.declared.kept_row.KeptRow.{KeptRow}

-- the floor of the row, where it is the job's
abbrev pub floor_in : List ℕ → Floor → ℕ
floor_in job row = if is_floor_of job row then row.floor else 0

-- the row is the job's, and its number this one or a later
abbrev pub is_from : List ℕ → ℕ → KeptRow → Bool
is_from job first row = bytes_eq row.job job && nat_le first row.number
