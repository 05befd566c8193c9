-- What stands between two entries of the journal, and what stood before the first. There are no totals: tracks are
-- counted over the extents.
use Rattle.std.specs.Prelude.{ℕ, List, Option, find, length, map}
use Rattle.sms_construct.specs.Configuration.{Configuration}
use Rattle.sms_construct.specs.declared.data_set.DataSet.{DataSet}
use Rattle.sms_construct.specs.declared.status.Status.{Status}
use Rattle.sms_construct.specs.declared.target.Target.{Target}
use Rattle.sms_keeper.specs.declared.rows.Rows.{Rows}
use Rattle.sms_keeper.specs.declared.status_row.StatusRow.{StatusRow}
use Rattle.sms_keeper.specs.Tables.{is_named, put_set, row_with, without_set}

-- the state of the desk
pub record DeskState : Type 0 where
  -- how many activations there were
  pub activations : ℕ
  -- the active configuration
  pub active : Option Configuration
  -- the present status of each of its storage groups and volumes
  pub statuses : List StatusRow
  -- the catalogued data sets
  pub sets : List DataSet

-- what a desk begins with: recorded rows, the configuration of the last deck, and the place before the first entry
pub record Opening : Type 0 where
  pub rows : Rows
  pub config : Option Configuration
  pub base : ℕ

-- the state before the first entry: there were as many activations as decks are recorded
abbrev pub start_of : Opening → DeskState
start_of o = record {
  activations = length o.rows.decks;
  active = o.config;
  statuses = o.rows.statuses;
  sets = o.rows.sets;
}

-- the catalogued data set of this name
abbrev pub set_named : List ℕ → List DataSet → Option DataSet
set_named dsn sets = find (is_named dsn) sets

-- the state in which this data set stands in place of the one of its name
abbrev pub with_set : DeskState → DataSet → DeskState
with_set s set = record s { sets = put_set set s.sets }

-- the state in which no data set of this name is catalogued
abbrev pub without_name : DeskState → List ℕ → DeskState
without_name s dsn = record s { sets = without_set dsn s.sets }

-- the state in which this storage group or volume has this status
abbrev pub with_status : DeskState → Target → Status → DeskState
with_status s target status = record s { statuses = map (row_with target status) s.statuses }
