-- The headline: the answers written are those of one legal history that holds each request of the script once.
use Rattle.std.specs.Prelude.{◌≡◌, ◌+◌, ◌-◌, ◌^◌, ◌≤◌, ◌<◌, ◌⊎◌, List, [], ◌∷◌, ◌++◌, ℕ, Bool, true, false, length, map}
use Rattle.std.specs.Prelude.{min, nat_lt, Option, Some, None, Ok}
use Rattle.sms_construct.specs.declared.data_set.DataSet.{DataSet}
use Rattle.sms_construct.specs.declared.entry.Answer.{Answer}
use Rattle.sms_construct.specs.declared.entry.Entry.{Entry}
use Rattle.sms_construct.specs.declared.reply.Reply.TheVariants.{Below, Granted}
use Rattle.sms_construct.specs.declared.trace.Trace.{Trace}
use Rattle.sms_construct.specs.declared.vol_row.VolRow.{VolRow}
use Rattle.sms_keeper.specs.declared.kept_row.KeptRow.{KeptRow}
use Rattle.sms_keeper.specs.declared.rows.Rows.{Rows}
use Rattle.desk_law.specs.State.{DeskState, Opening}
use Rattle.desk_law.specs.Display.{shown_volume}
use Rattle.desk_law.specs.Extents.{pieces_on}
use Rattle.desk_law.specs.Grants.{WasEntered, WasGranted}
use Rattle.desk_law.specs.History.{IsLegal, Reaches}
use Rattle.desk_law.specs.Kept.{floor_of, kept_for}
use Rattle.desk_law.specs.Lawful.{IsLawful}
use Rattle.desk_law.specs.Records.{empty_opening}
use Rattle.desk_law.specs.Step.{IsFresh, RepeatsReply, ReusesNumber}
use Rattle.desk_law.specs.Volumes.{volumes_in}
use Rattle.desk_records.specs.Tied.{faults_in}
use Rattle.sms_core.specs.Core.{HasTables}
use Rattle.sms_script.specs.declared.item.Item.{Item}
use Rattle.sms_script.specs.Script.{items_of, script_of}
use Rattle.sms_script.specs.AnswerText.{text_of}
use Rattle.track_ledger.specs.Gaps.{times_held}
use Rattle.sms_report.specs.VolumesTable.{table_text}
use Rattle.desk_generator.specs.Generated.{generated}
use Rattle.desk_generator.specs.Summary.{summary_of}
use Rattle.desk_workers.specs.Phases.{AreAnswered, IsFrontAnswered}
use Rattle.desk_calls.specs.Run.{AnswersInOrder}

-- the tables of a keeper, where it tells them, and its count of faults
pub record Keeping : Type 0 where
  pub told : Option Rows
  pub count : ℕ

-- what these tell of a keeper
abbrev pub seen_keeper : {P : Type 0} → (P → Option Rows) → (P → ℕ) → P → Keeping
seen_keeper told count keeper = record { told = told keeper; count = count keeper }

-- a repeated number: below its floor it is refused, a kept one gets its reply or is refused for another op, and each
-- other is fresh
pub record KeepsReplies (o : Opening) (history : List Entry) : Type 0 where
  pub below : (front rest : List Entry) (entry : Entry) → history ≡ front ++ entry ∷ rest
      → nat_lt entry.request.number (floor_of o front entry.request.job) ≡ true
      → entry.answer.reply ≡ Below (floor_of o front entry.request.job)
  pub kept : (front rest : List Entry) (entry : Entry) (row : KeptRow) → history ≡ front ++ entry ∷ rest
      → nat_lt entry.request.number (floor_of o front entry.request.job) ≡ false
      → kept_for o front entry.request.job entry.request.number ≡ Some row
      → RepeatsReply row entry ⊎ ReusesNumber row entry
  pub fresh : (front rest : List Entry) (entry : Entry) → history ≡ front ++ entry ∷ rest
      → nat_lt entry.request.number (floor_of o front entry.request.job) ≡ false
      → kept_for o front entry.request.job entry.request.number ≡ None
      → (s : DeskState) × (after : DeskState) × Reaches o front s × IsFresh (floor_of o front) s entry after
  pub floors : (front more rest : List Entry) (job : List ℕ) → history ≡ (front ++ more) ++ rest →
      floor_of o front job ≤ floor_of o (front ++ more) job

-- the history behind the opening is lawful in all that it grants, holds and keeps
pub record IsLawfulHistory (o : Opening) (history : List Entry) : Type 0 where
  -- each entry has the place at which it stands, counted on from the opening's, which is 0 for a new desk
  pub places : (front rest : List Entry) (entry : Entry) → history ≡ front ++ entry ∷ rest →
      entry.answer.place ≡ o.base + length front + 1
  -- legal history: each entry is a lawful step after those before it
  pub legal : IsLegal o history
  -- lawful grants: each grant, also a repeated one, is that of a reply of the opening to an equal request, or of an
  -- entry with an equal request, whose classes and lines are those of the routines of the configuration active there,
  -- on a volume that may be chosen, in pieces of the gap rule
  pub grants : (front rest : List Entry) (entry : Entry) (set : DataSet) (trace : Trace)
      → history ≡ front ++ entry ∷ rest
      → entry.answer.reply ≡ Granted set trace → WasGranted o front entry set trace
  -- one that was first answered at a place behind the opening's is that of an entry
  pub entered : (front rest : List Entry) (entry : Entry) (set : DataSet) (trace : Trace)
      → history ≡ front ++ entry ∷ rest
      → entry.answer.reply ≡ Granted set trace → o.base < entry.answer.first → WasEntered o front entry set trace
  -- at each time the state is lawful: no track is held twice, and each extent lies inside its volume
  pub lawful : (front rest : List Entry) (s : DeskState) → history ≡ front ++ rest → Reaches o front s → IsLawful s
  -- no track of two data sets
  pub tracks : (front rest : List Entry) (s : DeskState) → history ≡ front ++ rest → Reaches o front s
      → (first middle last : List DataSet) (set other : DataSet) (volser : List ℕ) (track : ℕ)
      → s.sets ≡ first ++ set ∷ (middle ++ other ∷ last)
      → times_held (pieces_on volser set.extents) track + times_held (pieces_on volser other.extents) track ≤ 1
  pub kept : KeepsReplies o history

-- a legal history behind an opening over a keeper, which was one thing before and is another after it
pub record IsRecorded (o : Opening) (before after : Keeping) (history : List Entry) : Type 0 where
  pub lawful : IsLawfulHistory o history
  -- the keeper counted each of its faults in the history, up to the greatest number that its count can be
  pub faults : min (before.count + faults_in history) (2 ^ 64 - 1) ≤ after.count
  -- the tables of the keeper are those of the history, where it tells them
  pub tables : HasTables o history after.told

-- the items were answered by so many workers behind an opening over a keeper, which was one thing before and is another
-- after
pub record WasRun (o : Opening) (workers : ℕ) (before after : Keeping) (phases : List (List Item))
    (answers : List Answer) (history : List Entry) : Type 0 where
  -- one history, each request once: each item has its answer, and the entries of the answers make the history, those of
  -- a phase behind those of the phases before it, and in each phase those of each job in script order; the items
  -- without a place are those answered M31 or R24, and R24 comes only where the history has no place for the op
  pub once : AreAnswered phases answers [] history
  -- by one worker all entries stand in script order, and R24 comes exactly where the history before the item has no
  -- place for the op
  pub in_order : workers ≡ 1 → AnswersInOrder (items_of phases) answers [] history
  pub recorded : IsRecorded o before after history

-- the rows are those of the volumes of the active configuration as the history left them, in its order; none where
-- nothing is active
abbrev pub AreRows : Opening → List Entry → List VolRow → Type 0
AreRows o history rows = (s : DeskState) → Reaches o history s → rows ≡ map (shown_volume s) (volumes_in s.active)

-- the text of the answers, and behind it the table of volumes
pub record HasTable (o : Opening) (phases : List (List Item)) (answers : List Answer) (history : List Entry)
    (text : List ℕ) : Type 0 where
  pub rows : List VolRow
  pub rows_are : AreRows o history rows
  pub text_is : text ≡ text_of phases answers (length history) ++ table_text rows

-- the text of the answers, with the number of entries; where they are asked for, the volumes stand behind it
abbrev pub Prints : Opening → Bool → List (List Item) → List Answer → List Entry → List ℕ → Type 0
Prints o false phases answers history text = text ≡ text_of phases answers (length history)
Prints o true phases answers history text = HasTable o phases answers history text

-- the text is that of the answers to the script in these bytes by so many workers, and they are those of one legal
-- history
pub record IsAnswered (o : Opening) (volumes : Bool) (workers : ℕ) (before after : Keeping)
    (bytes text : List ℕ) : Type 0 where
  pub phases : List (List Item)
  pub answers : List Answer
  pub history : List Entry
  -- whole input: the bytes are the script of these phases
  pub script : script_of bytes ≡ Ok phases
  -- whole output
  pub printed : Prints o volumes phases answers history text
  pub run : WasRun o workers before after phases answers history

-- the script in these bytes was run
pub record WasScriptRun (o : Opening) (workers : ℕ) (before after : Keeping) (bytes : List ℕ) : Type 0 where
  pub phases : List (List Item)
  pub answers : List Answer
  pub history : List Entry
  pub script : script_of bytes ≡ Ok phases
  pub run : WasRun o workers before after phases answers history

-- by several workers, only some of the first phases of the script in these bytes were run, each of them whole
pub record WasFrontRun (o : Opening) (workers : ℕ) (before after : Keeping) (bytes : List ℕ) : Type 0 where
  pub several : 2 ≤ workers
  pub phases : List (List Item)
  pub history : List Entry
  pub script : script_of bytes ≡ Ok phases
  pub front : IsFrontAnswered phases [] history
  pub recorded : IsRecorded o before after history

-- the whole script in these bytes was run, or, by several workers, only some of its first phases
abbrev pub WasBegun : Opening → ℕ → Keeping → Keeping → List ℕ → Type 0
WasBegun o workers before after bytes =
    WasScriptRun o workers before after bytes ⊎ WasFrontRun o workers before after bytes

-- where memory was wanting, the keeper is as it was, or the script in these bytes was begun
abbrev pub IsLeft : Opening → ℕ → Keeping → Keeping → List ℕ → Type 0
IsLeft o workers before after bytes = (after ≡ before) ⊎ WasBegun o workers before after bytes

-- the text is the summary of the answers to a generated script on a new desk, with the volumes and the number of
-- entries that the history left
pub record SumsUp (seed count : ℕ) (answers : List Answer) (history : List Entry) (text : List ℕ) : Type 0 where
  pub rows : List VolRow
  pub rows_are : AreRows empty_opening history rows
  pub text_is : text ≡ summary_of seed count answers rows (length history)

-- the text is that summary, and the answers are those of one legal history
pub record IsSummed (seed count : ℕ) (before after : Keeping) (text : List ℕ) : Type 0 where
  pub answers : List Answer
  pub history : List Entry
  pub printed : SumsUp seed count answers history text
  pub run : WasRun empty_opening 1 before after (generated seed count) answers history

-- the generated script was run
pub record WasLoadRun (seed count : ℕ) (before after : Keeping) : Type 0 where
  pub answers : List Answer
  pub history : List Entry
  pub run : WasRun empty_opening 1 before after (generated seed count) answers history

-- where memory was wanting, the keeper is as it was, or the whole generated script was run
abbrev pub IsLoadLeft : ℕ → ℕ → Keeping → Keeping → Type 0
IsLoadLeft seed count before after = (after ≡ before) ⊎ WasLoadRun seed count before after
