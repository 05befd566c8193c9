-- What a commit does to the log, and to what the keeper tells.
use Rattle.std.specs.Prelude.{ℕ, ◌≡◌, List, Option}
use Rattle.sms_keeper.specs.declared.change.Change.{Change}
use Rattle.sms_keeper.specs.declared.effect.Effect.{Effect}
use Rattle.sms_keeper.specs.declared.effect.Effect.TheVariants as effects
use Rattle.sms_keeper.specs.declared.request_key.RequestKey.{RequestKey}
use Rattle.sms_keeper.specs.declared.rows.Rows.{Rows}
use Rattle.sms_keeper.specs.Log.{LogView, floor_in, floor_with, kept_in, kept_with}
use Rattle.sms_keeper.specs.Told.{Applies, Stays}

-- the two logs find the same
pub record SameLog (old new : LogView) : Type 0 where
  pub kept : (key : RequestKey) → kept_in key new.kept ≡ kept_in key old.kept
  pub floors : (job : List ℕ) → floor_in job new.floors ≡ floor_in job old.floors

-- the floor of a job after an effect
abbrev pub floor_after : Effect → List (List ℕ × ℕ) → List ℕ → ℕ
floor_after effects.Nothing floors job = floor_in job floors
floor_after (effects.PutSet set) floors job = floor_in job floors
floor_after (effects.DropSet dsn) floors job = floor_in job floors
floor_after (effects.Activated count statuses) floors job = floor_in job floors
floor_after (effects.SetStatus target status) floors job = floor_in job floors
floor_after (effects.Floor raised floor) floors job = floor_with floors raised floor job

-- the log with other floors
abbrev pub under_floors : LogView → List (List ℕ × ℕ) → LogView
under_floors log floors =
    record { kept = log.kept; floors = floors; reply_room = log.reply_room; floor_room = log.floor_room }

-- the floor of the change's effect is raised, and then its reply kept
pub record IsLogged (change : Change) (old new : LogView) : Type 0 where
  pub floors_are : (job : List ℕ) → floor_in job new.floors ≡ floor_after change.effect old.floors job
  pub replies_are : (key : RequestKey) →
      kept_in key new.kept ≡ kept_with (under_floors old new.floors) change.request change.place change.reply key

-- the keeper made the change, and the log has it
pub record IsDone (change : Change) (told told' : Option Rows) (old new : LogView) : Type 0 where
  pub applies : Applies change told told'
  pub logged : IsLogged change old new

-- the tables are as they were, and so is the log
pub record IsUntouched (told told' : Option Rows) (old new : LogView) : Type 0 where
  pub stays : Stays told told'
  pub log_is : new ≡ old
