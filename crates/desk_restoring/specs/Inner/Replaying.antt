-- States on the way to that of recorded rows.
use Rattle.std.specs.Prelude.{◌≡◌, true, List, [], ◌∷◌, map, Option, None, Some}
use Rattle.sms_construct.specs.Configuration.{Configuration}
use Rattle.sms_construct.specs.declared.data_set.DataSet.{DataSet}
use Rattle.sms_keeper.specs.declared.status_row.StatusRow.{StatusRow}
use Rattle.sms_keeper.specs.Tables.{row_with}
use Rattle.desk_law.specs.State.{DeskState, start_of}
use Rattle.desk_law.specs.Activation.{activated}
use Rattle.desk_law.specs.Records.{empty_opening}
use Rattle.desk_law.specs.Statuses.{may_have}

-- the state of a desk that activated just this configuration, if any
abbrev pub fresh_state : Option Configuration → DeskState
fresh_state None = start_of empty_opening
fresh_state (Some config) = activated (start_of empty_opening) config

-- the target of the row may have its status
abbrev pub IsAllowed : StatusRow → Type 0
IsAllowed row = may_have row.target row.status ≡ true

-- the statuses after the target of each row got its status, in order
abbrev pub statuses_varied : List StatusRow → List StatusRow → List StatusRow
statuses_varied [] statuses = statuses
statuses_varied (row ∷ rows) statuses = statuses_varied rows (map (row_with row.target row.status) statuses)

-- the state with these statuses
abbrev pub with_statuses : DeskState → List StatusRow → DeskState
with_statuses s statuses = record s { statuses = statuses }

-- the state with these data sets
abbrev pub with_sets : DeskState → List DataSet → DeskState
with_sets s sets = record s { sets = sets }
