-- The tables of a desk, and a change of them (docs/manual/records.md).
use Rattle.std.specs.Prelude.{ℕ, Bool, false, ◌≡◌, ◌==◌, ◌&&◌, not, nat_lt, bytes_eq, fold, List, [], ◌∷◌, ◌++◌, filter}
use Rattle.std.specs.Prelude.{map, Option, Some, None, if◌then◌else◌}
use Rattle.std.specs.List.{list_any}
use Rattle.sms_construct.specs.declared.data_set.DataSet.{DataSet}
use Rattle.sms_construct.specs.declared.request.Op.{Op}
use Rattle.sms_construct.specs.declared.status.Status.{Status}
use Rattle.sms_construct.specs.declared.target.Target.{Target}
use Rattle.sms_construct.specs.declared.target.Target.TheVariants as targets
use Rattle.sms_keeper.specs.declared.change.Change.{Change}
use Rattle.sms_keeper.specs.declared.deck_row.DeckRow.{DeckRow}
use Rattle.sms_keeper.specs.declared.effect.Effect.{Effect}
use Rattle.sms_keeper.specs.declared.effect.Effect.TheVariants as effects
use Rattle.sms_keeper.specs.declared.floor.Floor.{Floor}
use Rattle.sms_keeper.specs.declared.kept_row.KeptRow.{KeptRow}
use Rattle.sms_keeper.specs.declared.rows.Rows.{Rows}
use Rattle.sms_keeper.specs.declared.status_row.StatusRow.{StatusRow}
use Rattle.sms_keeper.specs.Suits.{deck_of}

-- the two name the same storage group, volume or data set
abbrev pub same_target : Target → Target → Bool
same_target (targets.Group group) (targets.Group other) = bytes_eq group other
same_target (targets.Group group) (targets.Volume other) = false
same_target (targets.Group group) (targets.Set other) = false
same_target (targets.Volume volser) (targets.Group other) = false
same_target (targets.Volume volser) (targets.Volume other) = bytes_eq volser other
same_target (targets.Volume volser) (targets.Set other) = false
same_target (targets.Set dsn) (targets.Group other) = false
same_target (targets.Set dsn) (targets.Volume other) = false
same_target (targets.Set dsn) (targets.Set other) = bytes_eq dsn other

-- the data set of this name
abbrev pub is_named : List ℕ → DataSet → Bool
is_named dsn set = bytes_eq set.dsn dsn

-- the kept reply of this request
abbrev pub is_reply_of : List ℕ → ℕ → KeptRow → Bool
is_reply_of job number row = bytes_eq row.job job && (row.number == number)

-- the deck of the activation with this number
abbrev pub is_deck : ℕ → DeckRow → Bool
is_deck count row = row.count == count

-- the status of this target
abbrev pub is_status_of : Target → StatusRow → Bool
is_status_of target row = same_target row.target target

-- the floor of this job
abbrev pub is_floor_of : List ℕ → Floor → Bool
is_floor_of job row = bytes_eq row.job job

-- under each key the same rows: the tables have the same rows, in any order of the keys
pub record AreSame (a b : Rows) : Type 0 where
  pub sets : (dsn : List ℕ) → filter (is_named dsn) a.sets ≡ filter (is_named dsn) b.sets
  pub replies : (job : List ℕ) (number : ℕ) →
      filter (is_reply_of job number) a.replies ≡ filter (is_reply_of job number) b.replies
  pub decks : (count : ℕ) → filter (is_deck count) a.decks ≡ filter (is_deck count) b.decks
  pub statuses : (target : Target) → filter (is_status_of target) a.statuses ≡ filter (is_status_of target) b.statuses
  pub floors : (job : List ℕ) → filter (is_floor_of job) a.floors ≡ filter (is_floor_of job) b.floors

-- the data sets without the one of this name
abbrev pub without_set : List ℕ → List DataSet → List DataSet
without_set dsn sets = filter (λ set. not (is_named dsn set)) sets

-- the data set in place of the one of its name, or added
abbrev pub put_set : DataSet → List DataSet → List DataSet
put_set set sets = without_set set.dsn sets ++ set ∷ []

-- the data sets after an effect
abbrev pub sets_with : Effect → List DataSet → List DataSet
sets_with effects.Nothing sets = sets
sets_with (effects.PutSet set) sets = put_set set sets
sets_with (effects.DropSet dsn) sets = without_set dsn sets
sets_with (effects.Activated count statuses) sets = sets
sets_with (effects.SetStatus target status) sets = sets
sets_with (effects.Floor job floor) sets = sets

-- the floor in place of the job's, or added
abbrev pub put_floor : List ℕ → ℕ → List Floor → List Floor
put_floor job floor floors =
    filter (λ row. not (is_floor_of job row)) floors ++ record { job = job; floor = floor } ∷ []

-- the floors after an effect
abbrev pub floors_with : Effect → List Floor → List Floor
floors_with effects.Nothing floors = floors
floors_with (effects.PutSet set) floors = floors
floors_with (effects.DropSet dsn) floors = floors
floors_with (effects.Activated count statuses) floors = floors
floors_with (effects.SetStatus target status) floors = floors
floors_with (effects.Floor job floor) floors = put_floor job floor floors

-- a reply of the job with a number below the floor
abbrev pub is_reply_below : List ℕ → ℕ → KeptRow → Bool
is_reply_below job floor row = bytes_eq row.job job && nat_lt row.number floor

-- the replies that an effect leaves
abbrev pub replies_left : Effect → List KeptRow → List KeptRow
replies_left effects.Nothing rows = rows
replies_left (effects.PutSet set) rows = rows
replies_left (effects.DropSet dsn) rows = rows
replies_left (effects.Activated count statuses) rows = rows
replies_left (effects.SetStatus target status) rows = rows
replies_left (effects.Floor job floor) rows = filter (λ row. not (is_reply_below job floor row)) rows

-- the number is below a floor of the job
abbrev pub is_below_floor : List ℕ → ℕ → Floor → Bool
is_below_floor job number row = bytes_eq row.job job && nat_lt number row.floor

-- the row of a change's reply
abbrev pub row_of : Change → KeptRow
row_of change = record {
  job = change.request.job;
  number = change.request.number;
  place = change.place;
  request = change.request;
  reply = change.reply;
}

-- the row is added, unless its number is below its job's floor
abbrev pub keep_row : List Floor → KeptRow → List KeptRow → List KeptRow
keep_row floors row rows = if list_any (is_below_floor row.job row.number) floors then rows else rows ++ row ∷ []

-- the row with the status, where it is the target's
abbrev pub row_with : Target → Status → StatusRow → StatusRow
row_with target status row =
    record { target = row.target; status = if is_status_of target row then status else row.status }

-- the statuses after an effect
abbrev pub statuses_with : Effect → List StatusRow → List StatusRow
statuses_with effects.Nothing rows = rows
statuses_with (effects.PutSet set) rows = rows
statuses_with (effects.DropSet dsn) rows = rows
statuses_with (effects.Activated count statuses) rows = statuses
statuses_with (effects.SetStatus target status) rows = map (row_with target status) rows
statuses_with (effects.Floor job floor) rows = rows

-- the row of an activated deck
abbrev pub deck_rows : ℕ → Option (List ℕ) → List DeckRow
deck_rows count None = []
deck_rows count (Some bytes) = record { count = count; bytes = bytes } ∷ []

-- the deck that an effect adds
abbrev pub decks_added : Op → Effect → List DeckRow
decks_added op effects.Nothing = []
decks_added op (effects.PutSet set) = []
decks_added op (effects.DropSet dsn) = []
decks_added op (effects.Activated count statuses) = deck_rows count (deck_of op)
decks_added op (effects.SetStatus target status) = []
decks_added op (effects.Floor job floor) = []

-- the tables after a change
abbrev pub with_change : Rows → Change → Rows
with_change rows change = record {
  sets = sets_with change.effect rows.sets;
  replies = keep_row (floors_with change.effect rows.floors) (row_of change) (replies_left change.effect rows.replies);
  decks = rows.decks ++ decks_added change.request.op change.effect;
  statuses = statuses_with change.effect rows.statuses;
  floors = floors_with change.effect rows.floors;
}

-- empty tables
abbrev pub no_rows : Rows
no_rows = record { sets = []; replies = []; decks = []; statuses = []; floors = [] }

-- the tables after a list of changes
abbrev pub rows_after : List Change → Rows
rows_after changes = fold with_change no_rows changes
