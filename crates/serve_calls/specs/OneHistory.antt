-- The visits of all workers as one history.
use Rattle.std.specs.Prelude.{◌≡◌, ◌≤◌, ◌<◌, ◌+◌, ◌-◌, ◌^◌, ◌==◌, ℕ, List, [], ◌∷◌, length, min, get_or, All}
use Rattle.std.specs.Prelude.{if◌then◌else◌}
use Rattle.sms_construct.specs.declared.entry.Entry.{Entry}
use Rattle.desk_law.specs.Records.{empty_opening}
use Rattle.desk_records.specs.Tied.{faults_in}
use Rattle.sms_core.specs.Core.{HasTables}
use Rattle.desk_http.specs.Entered.{IsPlaced, IsPlacedAlone, entries_of}
use Rattle.serve_door.specs.declared.visit.Visit.{Visit}
use Rattle.serve_door.specs.Visits.{talks_of}
use Rattle.desk_calls.specs.Headline.{IsLawfulHistory, Keeping}

-- the entries that a worker made, where the list tells the worker of each
abbrev pub made_by : ℕ → List ℕ → List Entry → List Entry
made_by worker [] history = []
made_by worker (maker ∷ makers) [] = []
made_by worker (maker ∷ makers) (entry ∷ history) =
    if maker == worker then entry ∷ made_by worker makers history else made_by worker makers history

-- each request that was heard is in the history once: each entry was made by one of the workers, and those of each
-- worker are those of the talks of its visits, in their order; a talk without an entry has its place there too, and
-- R24 is answered only where the journal is full
pub record IsOneHistory (visits : List (List Visit)) (history : List Entry) : Type 0 where
  pub makers : List ℕ
  pub each : length makers ≡ length history
  pub known : All (λ maker. maker < length visits) makers
  pub made : (worker : ℕ) → worker < length visits
      → made_by worker makers history ≡ entries_of (talks_of (get_or visits worker []))
  pub placed : All (λ of_worker. All (λ talk. IsPlaced history talk) (talks_of of_worker)) visits
  -- one worker alone answers R24 wherever the journal is full
  pub alone : length visits ≤ 1
      → All (λ of_worker. All (λ talk. IsPlacedAlone history talk) (talks_of of_worker)) visits

-- the visits make a history of a new desk over a keeper, which was one thing before and is another after
pub record WasHeard (before after : Keeping) (visits : List (List Visit)) (history : List Entry) : Type 0 where
  pub once : IsOneHistory visits history
  pub lawful : IsLawfulHistory empty_opening history
  -- the keeper counted each of its faults in the history, up to the greatest number that its count can be
  pub faults : min (before.count + faults_in history) (2 ^ 64 - 1) ≤ after.count
  -- the tables of the keeper are those of the history, where it tells them
  pub tables : HasTables empty_opening history after.told
