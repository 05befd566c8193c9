-- What holds between a journal, the log of its replies, and what its keeper tells.
use Rattle.std.specs.Prelude.{ℕ, true, false, ◌≡◌, ◌+◌, ◌-◌, ◌^◌, ◌≤◌, ◌<◌, min, nat_lt, List, [], ◌∷◌, ◌++◌, find}
use Rattle.std.specs.Prelude.{length, count_by, Option, option_map, IfSome}
use Rattle.std.specs.List.{AllByRecursion}
use Rattle.sms_construct.specs.Quantities.{IsRequestNumber}
use Rattle.sms_construct.specs.declared.entry.Entry.{Entry}
use Rattle.sms_construct.specs.declared.request.Request.{Request}
use Rattle.sms_keeper.specs.declared.floor.Floor.{Floor}
use Rattle.sms_keeper.specs.declared.kept.KeptReply.{KeptReply}
use Rattle.sms_keeper.specs.declared.kept_row.KeptRow.{KeptRow}
use Rattle.sms_keeper.specs.declared.rows.Rows.{Rows}
use Rattle.sms_keeper.specs.Log.{LogView, floor_in, kept_in}
use Rattle.sms_keeper.specs.Tables.{is_reply_of}
use Rattle.desk_law.specs.State.{DeskState, Opening}
use Rattle.desk_law.specs.Kept.{all_floors, all_rows, floor_of, floor_told, greatest_floor, is_entered, is_fault}
use Rattle.desk_law.specs.Rule.{IsSound}
use Rattle.desk_law.specs.Step.{IsStep}
use Rattle.desk_law.specs.History.{Reaches}
use Rattle.desk_law.specs.Lawful.{IsLawfulOpening}
use Rattle.desk_law.specs.Records.{AreKept, IsTables}
use Rattle.desk_records.specs.Full.{is_full_for}

-- a row as the log keeps it
abbrev pub reply_of_row : KeptRow → KeptReply
reply_of_row row = record { place = row.place; op = row.request.op; reply = row.reply }

-- the log finds these floors, and of these rows the first of each number that isn't below them
pub record IsLogOf (floors : List Floor) (rows : List KeptRow) (log : LogView) : Type 0 where
  pub floors_are : (job : List ℕ) → floor_in job log.floors ≡ greatest_floor job floors
  pub replies_are : (job : List ℕ) (number : ℕ) → nat_lt number (greatest_floor job floors) ≡ false →
      kept_in (record { job = job; number = number }) log.kept ≡ option_map reply_of_row
      (find (is_reply_of job number) rows)

-- a kept row: its place is none to come, its reply came with an entry, and a floor that it tells stands
pub record IsGoodRow (old_floor : List ℕ → ℕ) (last : ℕ) (row : KeptRow) : Type 0 where
  pub place : row.place ≤ last
  pub entered : is_entered row.reply ≡ true
  pub no_fault : is_fault row.reply ≡ false
  pub floors_stand : AllByRecursion (λ told. told.floor ≤ old_floor told.job) (floor_told row.reply)

-- rows from which a desk may go on
pub record IsSoundOpening (o : Opening) : Type 0 where
  pub lawful : IsLawfulOpening o
  pub good : AllByRecursion (IsGoodRow (λ job. greatest_floor job o.rows.floors) o.base) o.rows.replies
  pub kept : AreKept o.rows.floors o.rows.replies o.rows.replies o.rows.floors
  pub base_fits : o.base < 2 ^ 63
  pub decks_fit : length o.rows.decks < 2 ^ 63

-- how many entries are faults of the keeper
abbrev pub faults_in : List Entry → ℕ
faults_in h = count_by (λ e. is_fault e.answer.reply) h

-- the journal is legal behind a sound opening and left the state s, the log has what it keeps, the tables are its own
-- where they are told, and the keeper counted each of its faults
pub record IsTied (o : Opening) (h : List Entry) (s : DeskState) (log : LogView) (told : Option Rows)
    (mark count : ℕ) : Type 0 where
  pub sound : IsSoundOpening o
  pub reaches : Reaches o h s
  pub good : AllByRecursion (IsGoodRow (floor_of o h) (o.base + length h)) (all_rows o h)
  pub log_is : IsLogOf (all_floors o h) (all_rows o h) log
  pub tables : IfSome told (λ rows. IsTables o h s rows)
  pub counted : min (mark + faults_in h) (2 ^ 64 - 1) ≤ count

-- all is tied, the journal has a place for the request, which is this one, and the request is sound
pub record IsReady (o : Opening) (h : List Entry) (s : DeskState) (log : LogView) (told : Option Rows) (mark count : ℕ)
    (place : ℕ) (request : Request) : Type 0 where
  pub tied : IsTied o h s log told mark count
  pub place_is : place ≡ o.base + length h + 1
  pub not_full : is_full_for h request.op ≡ false
  pub number : IsRequestNumber request.number
  pub sound : IsSound request.op

-- the entry is a lawful step from s, and all is tied behind it
pub record IsEntered (o : Opening) (h : List Entry) (s : DeskState) (e : Entry) (after : DeskState) (log : LogView)
    (told : Option Rows) (mark count : ℕ) : Type 0 where
  pub step : IsStep o h s e after
  pub tied : IsTied o (h ++ e ∷ []) after log told mark count
