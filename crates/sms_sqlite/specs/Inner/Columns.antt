-- The columns of the rows that the keeper writes.
use Rattle.std.specs.Prelude.{◌≡◌, ℕ, pos, List, [], ◌∷◌, ◌++◌, map, Some}
use Rattle.sqlite.specs.Order.{Row}
use Rattle.sms_construct.specs.declared.status.Status.{Status}
use Rattle.sms_construct.specs.declared.status.Status.TheVariants as statuses
use Rattle.sms_keeper.specs.Loading.{target_name, target_rank}
use Rattle.sms_keeper.specs.declared.status_row.StatusRow.{StatusRow}
use Rattle.sms_sqlite.specs.Values.{target_of}
use Rattle.keeper_statements.specs.Tables.{Tables}
use Rattle.keeper_statements.specs.Tests.{status_row}

-- the number of a status
abbrev pub status_column : Status → ℕ
status_column statuses.Enable = 0
status_column statuses.NotCon = 1
status_column statuses.DisAll = 2
status_column statuses.DisNew = 3
status_column statuses.QuiAll = 4
status_column statuses.QuiNew = 5

-- the row of a status: 0 for a storage group or 1 for a volume, its name, and the number of the status
abbrev pub row_of_status : StatusRow → Row
row_of_status row = status_row (pos (target_rank row.target)) (target_name row.target) (pos (status_column row.status))

-- the rows of these statuses added
abbrev pub with_statuses : List StatusRow → Tables → Tables
with_statuses rows t = record t { statuses = t.statuses ++ map row_of_status rows }

-- each target is read off its kind and its name
abbrev pub AreReadable : List StatusRow → Type 0
AreReadable [] = Unit {0}
AreReadable (row ∷ rows) =
    (target_of (target_rank row.target) (target_name row.target) ≡ Some row.target) × AreReadable rows
