-- What the rows of the database stand for (docs/manual/records.md, "The database").
use Rattle.std.specs.Prelude.{ℕ, pos, negsuc, zero, suc, List, [], ◌∷◌, bytes_eq, Option, Some, None, option_map}
use Rattle.std.specs.Prelude.{slice_get, if◌then◌else◌}
use Rattle.desk_common.specs.Limits.{most_number, up_to}
use Rattle.sqlite.specs.Order.{Row}
use Rattle.sqlite.specs.declared.types.Value.{Value}
use Rattle.sqlite.specs.declared.types.Value.TheVariants.{Null, Int, Real, Text, Blob}
use Rattle.sqlite_value.specs.Order.{column}
use Rattle.dsn_mask.specs.Name.{name_of, volser_of}
use Rattle.sms_construct.specs.Quantities.{request_number_of}
use Rattle.sms_construct.specs.declared.data_set.DataSet.{DataSet}
use Rattle.sms_construct.specs.declared.status.Status.{Status}
use Rattle.sms_construct.specs.declared.status.Status.TheVariants as statuses
use Rattle.sms_construct.specs.declared.target.Target.{Target}
use Rattle.sms_construct.specs.declared.target.Target.TheVariants as targets
use Rattle.sms_keeper.specs.declared.deck_row.DeckRow.{DeckRow}
use Rattle.sms_keeper.specs.declared.floor.Floor.{Floor}
use Rattle.sms_keeper.specs.declared.kept_row.KeptRow.{KeptRow}
use Rattle.sms_keeper.specs.declared.rows.Rows.{Rows}
use Rattle.sms_keeper.specs.declared.status_row.StatusRow.{StatusRow}
use Rattle.sms_records.specs.Form.{◌>>=◌, whole}
use Rattle.sms_records.specs.Replies.{reply_form}
use Rattle.sms_records.specs.Requests.{request_form}
use Rattle.sms_records.specs.Sets.{data_set_form}
use Rattle.sqlite.specs.Effect.{Database}
use Rattle.keeper_statements.specs.Tables.{Tables, tables_in}

-- a text
abbrev pub text_in : Value → Option (List ℕ)
text_in Null = None
text_in (Int n) = None
text_in (Real x) = None
text_in (Text text) = Some text
text_in (Blob bytes) = None

-- the bytes of a record or a deck
abbrev pub bytes_in : Value → Option (List ℕ)
bytes_in Null = None
bytes_in (Int n) = None
bytes_in (Real x) = None
bytes_in (Text text) = None
bytes_in (Blob bytes) = Some bytes

-- a number that isn't below 0
abbrev pub number_in : Value → Option ℕ
number_in Null = None
number_in (Int (pos n)) = Some n
number_in (Int (negsuc n)) = None
number_in (Real x) = None
number_in (Text text) = None
number_in (Blob bytes) = None

-- a data set: its record, and its name as the record has it
unfoldable pub set_in : Row → Option DataSet
set_in row = do
  dsn ← text_in (column row 0)
  bytes ← bytes_in (column row 1)
  set ← whole data_set_form bytes
  if bytes_eq set.dsn dsn then Some set else None

-- a kept reply: job, number, place, request and reply
unfoldable pub reply_in : Row → Option KeptRow
reply_in row = do
  text ← text_in (column row 0)
  job ← name_of text
  n ← number_in (column row 1)
  number ← request_number_of n
  place ← number_in (column row 2)
  asked ← bytes_in (column row 3)
  request ← whole request_form asked
  answered ← bytes_in (column row 4)
  reply ← whole reply_form answered
  Some (record { job = job; number = number; place = place; request = request; reply = reply })

-- a deck of which the number and the bytes alone are shown
unfoldable pub shown_deck_in : Row → Option DeckRow
shown_deck_in row = do
  count ← number_in (column row 0)
  bytes ← bytes_in (column row 1)
  Some (record { count = count; bytes = bytes })

-- a deck with its number, which is that of the row
unfoldable pub deck_in : Row → Option DeckRow
deck_in row = do
  count ← number_in (column row 0)
  bytes ← bytes_in (column row 2)
  Some (record { count = count; bytes = bytes })

-- kind 0 is a storage group, 1 a volume
abbrev pub target_of : ℕ → List ℕ → Option Target
target_of zero name = option_map targets.Group (name_of name)
target_of (suc zero) name = option_map targets.Volume (volser_of name)
target_of (suc (suc kind)) name = None

-- the statuses in the order of their numbers, from 0
abbrev pub all_statuses : List Status
all_statuses =
    statuses.Enable ∷ statuses.NotCon ∷ statuses.DisAll ∷ statuses.DisNew ∷ statuses.QuiAll ∷ statuses.QuiNew ∷ []

-- the status of a storage group or a volume
unfoldable pub status_in : Row → Option StatusRow
status_in row = do
  kind ← number_in (column row 0)
  name ← text_in (column row 1)
  target ← target_of kind name
  n ← number_in (column row 2)
  status ← slice_get all_statuses n
  Some (record { target = target; status = status })

-- the floor of a job
unfoldable pub floor_in : Row → Option Floor
floor_in row = do
  text ← text_in (column row 0)
  job ← name_of text
  n ← number_in (column row 1)
  floor ← up_to most_number n
  Some (record { job = job; floor = floor })

-- what rows stand for, where each stands for something
abbrev pub joined : {B : Type 0} → Option B → Option (List B) → Option (List B)
joined (Some x) (Some xs) = Some (x ∷ xs)
joined (Some x) None = None
joined None xs = None

abbrev pub each_in : {A B : Type 0} → (A → Option B) → List A → Option (List B)
each_in read [] = Some []
each_in read (row ∷ rows) = joined (read row) (each_in read rows)

-- the tables, where each row stands for something
abbrev pub rows_of : Tables → Option Rows
rows_of t = do
  sets ← each_in set_in t.sets
  replies ← each_in reply_in t.replies
  decks ← each_in deck_in t.decks
  statuses ← each_in status_in t.statuses
  floors ← each_in floor_in t.floors
  Some (record { sets = sets; replies = replies; decks = decks; statuses = statuses; floors = floors })

-- the tables of this database
abbrev pub rows_in : Database → Option Rows
rows_in db = rows_of (tables_in db)
