-- What rows that were found must pass, test by test in their order (docs/manual/records.md, "Found rows").
use Rattle.std.specs.Prelude.{ℕ, true, ◌≡◌, ◌≤◌, ◌+◌, List, [], ◌∷◌, Option, if◌then◌else◌}
use Rattle.std.specs.List.{AllByRecursion}
use Rattle.sms_construct.specs.Configuration.{Configuration}
use Rattle.sms_construct.specs.declared.data_set.DataSet.{DataSet}
use Rattle.sms_construct.specs.declared.fault.Fault.{Fault}
use Rattle.sms_construct.specs.declared.target.Target.{Target}
use Rattle.deck_meaning.specs.Reading.{HasFirstFault}
use Rattle.sms_keeper.specs.declared.deck_row.DeckRow.{DeckRow}
use Rattle.sms_keeper.specs.declared.floor.Floor.{Floor}
use Rattle.sms_keeper.specs.declared.kept_row.KeptRow.{KeptRow}
use Rattle.sms_keeper.specs.declared.rows.Rows.{Rows}
use Rattle.sms_keeper.specs.declared.status_row.StatusRow.{StatusRow}
use Rattle.sms_keeper.specs.Tables.{is_floor_of, is_reply_of}
use Rattle.track_ledger.specs.Gaps.{times_held}
use Rattle.desk_law.specs.Decked.{AreNumbered}
use Rattle.desk_law.specs.Extents.{extents_of, pieces_on}
use Rattle.desk_law.specs.Kept.{floor_told, greatest_floor}
use Rattle.desk_law.specs.KeptRows.{IsKeptRow, times_placed}
use Rattle.desk_law.specs.Lawful.{IsLawfulSet, times_named}
use Rattle.desk_law.specs.Statuses.{may_have, times_status}
use Rattle.desk_law.specs.Volumes.{times_target, volumes_in}

-- how many replies are kept for the number of the job
abbrev pub times_kept : List ℕ → ℕ → List KeptRow → ℕ
times_kept job number [] = 0
times_kept job number (row ∷ rows) = (if is_reply_of job number row then 1 else 0) + times_kept job number rows

-- how many floors the job has
abbrev pub times_floor : List ℕ → List Floor → ℕ
times_floor job [] = 0
times_floor job (floor ∷ floors) = (if is_floor_of job floor then 1 else 0) + times_floor job floors

-- test 1: no two data sets have one name, no two replies one job and number, no two floors one job
pub record AreSingle (rows : Rows) : Type 0 where
  pub names : (dsn : List ℕ) → times_named dsn rows.sets ≤ 1
  pub numbers : (job : List ℕ) (number : ℕ) → times_kept job number rows.replies ≤ 1
  pub jobs : (job : List ℕ) → times_floor job rows.floors ≤ 1

-- test 2: the decks are counted from 1 in order, and where there is none, there is no data set and no status
pub record AreCounted (rows : Rows) : Type 0 where
  pub in_order : AreNumbered 0 rows.decks
  pub no_sets : rows.decks ≡ [] → rows.sets ≡ []
  pub no_statuses : rows.decks ≡ [] → rows.statuses ≡ []

-- test 3: not this, that the last deck has a fault
abbrev pub HasLastFault : List DeckRow → Type 0
HasLastFault [] = ⊥
HasLastFault (deck ∷ []) = (fault : Fault) × HasFirstFault deck.bytes fault
HasLastFault (deck ∷ next ∷ decks) = HasLastFault (next ∷ decks)

-- test 4: there is one status for each storage group and volume of the configuration and none else, and no volume has
-- NOTCON
pub record AreStatusesOf (active : Option Configuration) (statuses : List StatusRow) : Type 0 where
  pub each : (target : Target) → times_status target statuses ≡ times_target active target
  pub connected : AllByRecursion (λ row. may_have row.target row.status ≡ true) statuses

-- test 5: each data set may stand in the configuration (it has an extent, on each volume at most 16, each not empty,
-- inside its volume and in one part of it, and a secondary quantity in whole units), and no track of a volume is held
-- twice
pub record ArePlaced (active : Option Configuration) (sets : List DataSet) : Type 0 where
  pub each : AllByRecursion (IsLawfulSet (volumes_in active)) sets
  pub once : (volser : List ℕ) (track : ℕ) → times_held (pieces_on volser (extents_of sets)) track ≤ 1

-- the greatest place that a found reply may have: no desk comes to it from 0 one by one
abbrev pub most_place : ℕ
most_place = 4611686018427387904

-- a reply that a desk may have kept beside these floors: it is one that is kept, for the job and number of its request
-- and at a place from 1 to the greatest, its number isn't below its job's floor, and a floor that it tells isn't above
-- that of the job
pub record IsSoundReply (floors : List Floor) (row : KeptRow) : Type 0 where
  pub kept : IsKeptRow most_place row
  pub above : greatest_floor row.job floors ≤ row.number
  pub told : AllByRecursion (λ told. told.floor ≤ greatest_floor told.job floors) (floor_told row.reply)

-- test 6: each reply is such a one, no two have one place, and no floor is 0
pub record AreSoundReplies (replies : List KeptRow) (floors : List Floor) : Type 0 where
  pub each : AllByRecursion (IsSoundReply floors) replies
  pub apart : (place : ℕ) → times_placed place replies ≤ 1
  pub floors_stand : AllByRecursion (λ floor. 1 ≤ floor.floor) floors
