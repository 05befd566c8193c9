-- What a history keeps: replies and floors (docs/manual/records.md, "Kept replies").
use Rattle.std.specs.Prelude.{ℕ, Bool, true, false, max, List, [], ◌∷◌, ◌++◌, find, Option, if◌then◌else◌}
use Rattle.sms_construct.specs.Fate.{fate_of}
use Rattle.sms_construct.specs.declared.entry.Entry.{Entry}
use Rattle.sms_construct.specs.declared.fate.Fate.{Fate}
use Rattle.sms_construct.specs.declared.fate.Fate.TheVariants as fates
use Rattle.sms_construct.specs.declared.reply.Reply.{Reply}
use Rattle.sms_keeper.specs.declared.floor.Floor.{Floor}
use Rattle.sms_keeper.specs.declared.kept_row.KeptRow.{KeptRow}
use Rattle.sms_keeper.specs.Tables.{is_floor_of, is_reply_of}
use Rattle.desk_law.specs.State.{Opening}
use Rattle.desk_law.specs.Changes.{Consequence, NoChange, Change, Activation, FloorOf, Fault, consequence_of}

-- the greatest floor of a job among these, 0 without one
abbrev pub greatest_floor : List ℕ → List Floor → ℕ
greatest_floor job [] = 0
greatest_floor job (row ∷ rows) =
    if is_floor_of job row then max row.floor (greatest_floor job rows) else greatest_floor job rows

-- the floor that was set, if any
abbrev pub floor_set : Consequence → List Floor
floor_set NoChange = []
floor_set Change = []
floor_set (Activation count) = []
floor_set (FloorOf job floor) = record { job = job; floor = floor } ∷ []
floor_set Fault = []

-- the floor that a reply tells, if any
abbrev pub floor_told : Reply → List Floor
floor_told reply = floor_set (consequence_of reply)

-- the floors that entries tell
abbrev pub floors_of : List Entry → List Floor
floors_of [] = []
floors_of (entry ∷ entries) = floor_told entry.answer.reply ++ floors_of entries

-- all floors that were ever set
abbrev pub all_floors : Opening → List Entry → List Floor
all_floors o h = o.rows.floors ++ floors_of h

-- the floor of a job: the greatest of the opening's and of those answered, 0 without one
abbrev pub floor_of : Opening → List Entry → List ℕ → ℕ
floor_of o h job = greatest_floor job (all_floors o h)

-- an entry as a row
abbrev pub row_of_entry : Entry → KeptRow
row_of_entry entry = record {
  job = entry.request.job;
  number = entry.request.number;
  place = entry.answer.place;
  request = entry.request;
  reply = entry.answer.reply;
}

-- the keeper failed
abbrev pub has_failed : Consequence → Bool
has_failed NoChange = false
has_failed Change = false
has_failed (Activation count) = false
has_failed (FloorOf job floor) = false
has_failed Fault = true

-- a fault of the keeper
abbrev pub is_fault : Reply → Bool
is_fault reply = has_failed (consequence_of reply)

-- the row of an entry whose reply is no fault of the keeper
abbrev pub rows_of_entry : Entry → List KeptRow
rows_of_entry entry = if is_fault entry.answer.reply then [] else row_of_entry entry ∷ []

-- the rows of entries
abbrev pub rows_of : List Entry → List KeptRow
rows_of [] = []
rows_of (entry ∷ entries) = rows_of_entry entry ++ rows_of entries

-- the opening's rows, then those of the entries
abbrev pub all_rows : Opening → List Entry → List KeptRow
all_rows o h = o.rows.replies ++ rows_of h

-- what decides for a job's number: the opening's row, else the first entry that is no fault
abbrev pub kept_for : Opening → List Entry → List ℕ → ℕ → Option KeptRow
kept_for o h job number = find (is_reply_of job number) (all_rows o h)

-- a reply of this fate comes with an entry
abbrev pub makes_entry : Fate → Bool
makes_entry fates.NoEntry = false
makes_entry fates.Unkept = true
makes_entry fates.Kept = true

-- a reply that comes with an entry
abbrev pub is_entered : Reply → Bool
is_entered reply = makes_entry (fate_of reply)
