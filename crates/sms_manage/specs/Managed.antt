-- A day of space management: which requests are made, and what they come to.
use Rattle.std.specs.Prelude.{ℕ, ◌≡◌, ◌≤◌, ◌↔◌, ◌+◌, ◌==◌, ◌&&◌, ◌⊎◌, Bool, true, false, not, List, [], ◌∷◌, ◌++◌, map}
use Rattle.std.specs.Prelude.{codes, bytes_eq, Option, None, Some, IfSome, MatchOption}
use Rattle.std.specs.List.{list_all, list_any}
use Rattle.sms_construct.specs.Configuration.{Configuration, are_ascending}
use Rattle.sms_construct.specs.declared.data_set.DataSet.{DataSet}
use Rattle.sms_construct.specs.declared.entry.Entry.{Entry}
use Rattle.sms_construct.specs.declared.reply.Reply.{Reply}
use Rattle.sms_construct.specs.declared.reply.Reply.TheVariants as replies
use Rattle.sms_construct.specs.declared.request.Op.{Op}
use Rattle.sms_construct.specs.declared.request.Op.TheVariants as ops
use Rattle.desk_law.specs.State.{DeskState, Opening, set_named}
use Rattle.desk_law.specs.History.{Reaches}
use Rattle.desk_law.specs.Kept.{floor_of, is_entered, kept_for}
use Rattle.desk_records.specs.Full.{is_full_for}
use Rattle.desk_state.specs.Following.{is_behind}
use Rattle.sms_core.specs.Core.{entry_of}
use Rattle.sms_construct.specs.declared.entry.Answer.{Answer}
use Rattle.sms_manage.specs.declared.act.Act.{Act}
use Rattle.sms_manage.specs.declared.wanted.Due.{Due}
use Rattle.sms_manage.specs.declared.wanted.Due.TheVariants.{Nothing, Delete, Release}
use Rattle.sms_manage.specs.Due.{due_of, is_due_if}

-- the job that asks
abbrev pub manager : List ℕ
manager = codes "SMSMGMT"

-- the job has no kept reply and no floor
pub record IsUnused (o : Opening) (h : List Entry) : Type 0 where
  pub floor : floor_of o h manager ≡ 0
  pub kept : (number : ℕ) → kept_for o h manager number ≡ None

-- the job has no kept reply from this number on, and no floor above it
pub record IsUnusedFrom (o : Opening) (h : List Entry) (number : ℕ) : Type 0 where
  pub floor : floor_of o h manager ≤ number
  pub kept : (n : ℕ) → number ≤ n → kept_for o h manager n ≡ None

-- what is asked where something is due
abbrev pub op_for : Due → List ℕ → Option Op
op_for Nothing dsn = None
op_for Delete dsn = Some (ops.Delete dsn)
op_for Release dsn = Some (ops.Release dsn)

-- what is asked of the data set, if there is one and something is due
abbrev pub op_if : Configuration → ℕ → Option DataSet → Option Op
op_if config day None = None
op_if config day (Some set) = op_for (due_of config day set) set.dsn

-- the entry of an act, if its answer makes one
abbrev pub entry_for : Option Op → Act → List Entry
entry_for None act = []
entry_for (Some op) act = entry_of (record { job = manager; number = act.number; op = op }) act.answer

-- the entries of the acts
abbrev pub entries_of : Configuration → ℕ → List DataSet → List Act → List Entry
entries_of config day sets [] = []
entries_of config day sets (act ∷ acts) =
    entry_for (op_if config day (set_named act.dsn sets)) act ++ entries_of config day sets acts

-- the acts have the numbers from this one on
abbrev pub are_counted : ℕ → List Act → Bool
are_counted number [] = true
are_counted number (act ∷ acts) = act.number == number && are_counted (number + 1) acts

-- the acts are just one for each data set of which something is due, in byte order of the names, and are counted from
-- this number
pub record AreActs (first : ℕ) (config : Configuration) (day : ℕ) (sets : List DataSet) (acts : List Act) : Type 0 where
  pub each : (dsn : List ℕ) → list_any (λ act. bytes_eq act.dsn dsn) acts ≡ is_due_if config day (set_named dsn sets)
  pub order : are_ascending (map (λ act. act.dsn) acts) ≡ true
  pub counted : are_counted first acts ≡ true

-- the acts are just one for each of some first data sets of which something is due, in byte order of the names, and are
-- counted from this number: what is due and wasn't asked for stands behind all that was
pub record AreFirstActs (first : ℕ) (config : Configuration) (day : ℕ) (sets : List DataSet) (acts : List Act) : Type 0 where
  pub due : (dsn : List ℕ) → list_any (λ act. bytes_eq act.dsn dsn) acts ≡ true →
      is_due_if config day (set_named dsn sets) ≡ true
  pub front : (dsn : List ℕ) → is_due_if config day (set_named dsn sets) ≡ true →
      list_any (λ act. bytes_eq act.dsn dsn) acts ≡ false → list_all (λ act. is_behind (Some act.dsn) dsn) acts ≡ true
  pub order : are_ascending (map (λ act. act.dsn) acts) ≡ true
  pub counted : are_counted first acts ≡ true

-- nothing was done: the keeper failed, or the journal's room or memory was wanting
abbrev pub is_hindered : Reply → Bool
is_hindered replies.KeeperFault = true
is_hindered replies.JournalFull = true
is_hindered replies.Memory = true
is_hindered reply = false

-- the answer is one of a step behind these entries: without an entry it has no place, and the journal is full exactly
-- where it has none for the op
pub record IsAnswerBehind (h : List Entry) (op : Op) (answer : Answer) : Type 0 where
  pub unplaced : is_entered answer.reply ≡ false → (answer.place ≡ 0) × (answer.first ≡ 0)
  pub full : answer.reply ≡ replies.JournalFull ↔ is_full_for h op ≡ true

-- each act has such an answer behind these entries and those of the acts before it
abbrev pub AreAnswersBehind : Configuration → ℕ → List DataSet → List Entry → List Act → Type 0
AreAnswersBehind config day sets h [] = Unit {0}
AreAnswersBehind config day sets h (act ∷ acts) =
    IfSome (op_if config day (set_named act.dsn sets)) (λ op. IsAnswerBehind h op act.answer)
    × AreAnswersBehind config day sets (h ++ entry_for (op_if config day (set_named act.dsn sets)) act) acts

-- from the state before, in which this configuration was active, the acts lead to the state after
pub record IsManaged (first : ℕ) (o : Opening) (day : ℕ) (config : Configuration) (before after : DeskState)
    (old new : List Entry) (acts : List Act) : Type 0 where
  pub active : before.active ≡ Some config
  pub acts_are : AreActs first config day before.sets acts
  pub journal : new ≡ old ++ entries_of config day before.sets acts
  pub answers : AreAnswersBehind config day before.sets old acts
  pub legal : Reaches o new after
  -- other data sets are as before
  pub others : (dsn : List ℕ) → is_due_if config day (set_named dsn before.sets) ≡ false →
      set_named dsn after.sets ≡ set_named dsn before.sets
  -- where nothing hindered them nothing is due any more
  pub settled : list_all (λ act. not (is_hindered act.answer.reply)) acts ≡ true → (dsn : List ℕ) →
      is_due_if config day (set_named dsn after.sets) ≡ false

-- from the state before, in which this configuration was active, some first acts of the day were done
pub record IsDayBegun (first day : ℕ) (config : Configuration) (before : DeskState) (old new : List Entry) : Type 0 where
  pub acts : List Act
  pub acts_are : AreFirstActs first config day before.sets acts
  pub journal : new ≡ old ++ entries_of config day before.sets acts
  pub answers : AreAnswersBehind config day before.sets old acts

-- some first acts of a day were done behind these entries; none where nothing is active
abbrev pub WasDayBegunFrom : ℕ → Opening → ℕ → List Entry → List Entry → Type 0
WasDayBegunFrom first o day old new =
    (before : DeskState) → Reaches o old before
    → MatchOption before.active (new ≡ old) (λ config. IsDayBegun first day config before old new)

-- the same of acts that are counted from 1
abbrev pub WasDayBegun : Opening → ℕ → List Entry → List Entry → Type 0
WasDayBegun = WasDayBegunFrom 1

-- behind these entries stand only some that the job asked for
pub record IsAsking (old new : List Entry) : Type 0 where
  pub added : List Entry
  pub behind : new ≡ old ++ added
  pub asked : list_all (λ entry. bytes_eq entry.request.job manager) added ≡ true

-- nothing is active, so nothing is catalogued, and nothing is done
pub record IsIdle (before : DeskState) (old new : List Entry) (acts : List Act) : Type 0 where
  pub inactive : before.active ≡ None
  pub none : acts ≡ []
  pub same : new ≡ old

-- a day of space management behind these entries, with acts that are counted from this number
abbrev pub WasManagedFrom : ℕ → Opening → ℕ → List Entry → List Entry → List Act → Type 0
WasManagedFrom first o day old new acts =
    (before : DeskState) → Reaches o old before
    → ((config : Configuration) × (after : DeskState) × IsManaged first o day config before after old new acts) ⊎
    IsIdle before old new acts

-- the same of acts that are counted from 1
abbrev pub WasManaged : Opening → ℕ → List Entry → List Entry → List Act → Type 0
WasManaged = WasManagedFrom 1
