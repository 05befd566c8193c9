-- The present status of storage groups and volumes.
use Rattle.std.specs.Prelude.{ℕ, ◌+◌, Bool, true, false, List, [], ◌∷◌, if◌then◌else◌}
use Rattle.sms_construct.specs.Configuration.{is_connected}
use Rattle.sms_construct.specs.declared.status.Status.{Status}
use Rattle.sms_construct.specs.declared.status.Status.TheVariants.{Enable, NotCon, DisAll, DisNew, QuiAll, QuiNew}
use Rattle.sms_construct.specs.declared.target.Target.{Target}
use Rattle.sms_construct.specs.declared.target.Target.TheVariants as targets
use Rattle.sms_keeper.specs.declared.status_row.StatusRow.{StatusRow}
use Rattle.sms_keeper.specs.Tables.{is_status_of}
use Rattle.desk_law.specs.State.{DeskState}

-- the status of the target among the rows, and this one where it has none there
abbrev pub status_in : List StatusRow → Target → Status → Status
status_in [] target other = other
status_in (row ∷ rows) target other = if is_status_of target row then row.status else status_in rows target other

-- how many rows the target has
abbrev pub times_status : Target → List StatusRow → ℕ
times_status target [] = 0
times_status target (row ∷ rows) = (if is_status_of target row then 1 else 0) + times_status target rows

-- the present status of a storage group; what has none isn't connected
abbrev pub group_status : DeskState → List ℕ → Status
group_status s name = status_in s.statuses (targets.Group name) NotCon

-- the present status of a volume
abbrev pub volume_status : DeskState → List ℕ → Status
volume_status s volser = status_in s.statuses (targets.Volume volser) NotCon

-- the target may have the status: NOTCON is one of storage groups alone
abbrev pub may_have : Target → Status → Bool
may_have (targets.Group name) status = true
may_have (targets.Volume volser) status = is_connected status
may_have (targets.Set dsn) status = true

-- a storage group of this status gives the data sets that it has no further tracks
abbrev pub bars_group_growth : Status → Bool
bars_group_growth Enable = false
bars_group_growth NotCon = true
bars_group_growth DisAll = true
bars_group_growth DisNew = false
bars_group_growth QuiAll = false
bars_group_growth QuiNew = false

-- a volume of this status gives the data sets that it has no further tracks
abbrev pub bars_volume_growth : Status → Bool
bars_volume_growth Enable = false
bars_volume_growth NotCon = false
bars_volume_growth DisAll = true
bars_volume_growth DisNew = false
bars_volume_growth QuiAll = false
bars_volume_growth QuiNew = false
