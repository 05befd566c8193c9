-- How a day of space management on a store ends: each status and its cause (docs/manual/smsd.md, "Space management").
use Rattle.std.specs.Prelude.{◌≡◌, ◌⊎◌, ℕ, List, [], Option}
use Rattle.sms_construct.specs.declared.entry.Entry.{Entry}
use Rattle.sms_keeper.specs.declared.keeper.Keeper.{Ghosts}
use Rattle.sms_keeper.specs.declared.table.Table.{Table}
use Rattle.desk_law.specs.State.{Opening}
use Rattle.sms_manage.specs.Managed.{IsAsking, WasDayBegunFrom, WasManagedFrom, manager}
use Rattle.sms_manage.specs.ManageText.{managed_text}
use Rattle.sms_manage.specs.declared.act.Act.{Act}
use Rattle.desk_calls.specs.Headline.{IsRecorded, Keeping}
use Rattle.desk_calls.specs.declared.status.RunStatus.{RunStatus}
use Rattle.desk_calls.specs.declared.status.RunStatus.TheVariants.{Done, BadWords, ReadFault, WriteFault, Script}
use Rattle.desk_calls.specs.declared.status.RunStatus.TheVariants.{TooLong, NoMemory}
use Rattle.store_calls.specs.Checked.{IsFreeFrom}
use Rattle.store_calls.specs.Opened.{IsUnopened, WasOpened}
use Rattle.store_calls.specs.StoreLists.{Seen}
use Rattle.store_calls.specs.StoreRun.{keeping_of}
use Rattle.store_calls.specs.Written.{IsCut, IsWritten}
use Rattle.store_calls.specs.declared.status.StoreStatus.{StoreStatus}
use Rattle.store_calls.specs.declared.status.StoreStatus.TheVariants.{Ran, Unopened}

-- on a desk with this opening exactly what is due on the day was asked for, once each, under numbers from one on from
-- which the job of space management had used none; these are the acts
pub record WasDay (o : Opening) (day : ℕ) (before after : Keeping) (acts : List Act) : Type 0 where
  pub first : ℕ
  pub free : IsFreeFrom manager o.rows first
  pub history : List Entry
  pub managed : WasManagedFrom first o day [] history acts
  pub asking : IsAsking [] history
  -- faults and tables are those of this history, which is lawful
  pub recorded : IsRecorded o before after history

-- the same of some first acts of the day
pub record WasDayCut (o : Opening) (day : ℕ) (before after : Keeping) : Type 0 where
  pub first : ℕ
  pub free : IsFreeFrom manager o.rows first
  pub history : List Entry
  pub begun : WasDayBegunFrom first o day [] history
  pub asking : IsAsking [] history
  pub recorded : IsRecorded o before after history

-- the text is that of the acts of the day
pub record IsDayTold (o : Opening) (day : ℕ) (before after : Keeping) (text : List ℕ) : Type 0 where
  pub acts : List Act
  pub done : WasDay o day before after acts
  pub told_is : text ≡ managed_text acts

-- where memory was wanting the keeper is as it was, or some first acts of the day were done
abbrev pub IsDayLeft : Opening → ℕ → Keeping → Keeping → Type 0
IsDayLeft o day before after = (after ≡ before) ⊎ WasDayCut o day before after

-- the day was done, and the sink took the whole of its text
pub record WasDayWritten (o : Opening) (day : ℕ) (old new : Seen) (before after : Keeping) : Type 0 where
  pub text : List ℕ
  pub day_told : IsDayTold o day before after text
  pub taken_whole : IsWritten text old new

-- the day was done, and the sink took a proper front of its text
pub record WasDayWrittenInPart (o : Opening) (day : ℕ) (old new : Seen) (before after : Keeping) : Type 0 where
  pub text : List ℕ
  pub day_told : IsDayTold o day before after text
  pub taken_front : IsCut text old new

-- what each status says of a day on a desk with this opening
abbrev pub DayEnds : Opening → ℕ → Seen → Seen → Keeping → Keeping → RunStatus → Type 0
DayEnds o day old new before after Done = WasDayWritten o day old new before after
DayEnds o day old new before after BadWords = ⊥
DayEnds o day old new before after ReadFault = ⊥
DayEnds o day old new before after WriteFault = WasDayWrittenInPart o day old new before after
DayEnds o day old new before after (Script err) = ⊥
DayEnds o day old new before after TooLong = ⊥
DayEnds o day old new before after NoMemory = (new ≡ old) × IsDayLeft o day before after

module _ {P : Type 0} (told_by : Ghosts P) (damage : P → Option (Table × ℕ)) where
  -- a desk went on from the tables of the keeper, and the day was done there
  pub record WasStoreDay (day : ℕ) (old new : Seen) (before after : P) (status : RunStatus) : Type 0 where
    -- the keeper as the desk found it
    pub mid : P
    pub opening : Opening
    pub opened : WasOpened told_by damage before mid opening
    pub ends : DayEnds opening day old new (keeping_of told_by mid) (keeping_of told_by after) status

  -- what each status says
  abbrev pub StoreDayEnds : ℕ → Seen → Seen → P → P → StoreStatus → Type 0
  StoreDayEnds day old new before after (Ran status) = WasStoreDay day old new before after status
  StoreDayEnds day old new before after (Unopened err) = IsUnopened told_by damage before after err
