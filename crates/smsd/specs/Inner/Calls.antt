-- The exit status behind each call over a store: that of the status with which the call ended.
use Rattle.std.specs.Prelude.{◌≡◌, ℕ, Bool, true, false, Option, None, Some, if◌then◌else◌}
use Rattle.sms_base.specs.Observed.{Observed}
use Rattle.sms_keeper.specs.declared.keeper.Keeper.{Ghosts}
use Rattle.sms_keeper.specs.declared.table.Table.{Table}
use Rattle.store_report.specs.declared.query.Query.{Query}
use Rattle.store_calls.specs.Checked.{StoreCheckEnds}
use Rattle.store_calls.specs.Statuses.{store_status_of}
use Rattle.store_calls.specs.StoreDay.{StoreDayEnds}
use Rattle.store_calls.specs.StoreDue.{StoreDueEnds}
use Rattle.store_calls.specs.StoreLists.{Seen, StoreListEnds}
use Rattle.store_calls.specs.StoreRun.{StoreRunEnds}
use Rattle.store_calls.specs.declared.status.StoreStatus.{StoreStatus}
use Rattle.smsd_words.specs.declared.running.Running.{Running}
use Rattle.smsd.specs.Ends.{is_done, judged_status_of}

-- the day of space management behind a script that ended so: the day that is named, where all was written
abbrev pub day_behind : Option ℕ → StoreStatus → Option ℕ
day_behind managed ran = if is_done ran then managed else None

-- what is told of the sink alone
abbrev pub sink_of : Observed → Seen
sink_of seen = record { taken = seen.taken; faults = seen.write_faults }

-- nothing more was read
abbrev pub IsUnread : Observed → Observed → Type 0
IsUnread old new = new ≡ record old { taken = new.taken; write_faults = new.write_faults }

module _ {P : Type 0} (told_by : Ghosts P) (damage : P → Option (Table × ℕ)) where
  -- nothing more was done behind a script that ended so
  pub record IsLeft (ran : StoreStatus) (old new : Seen) (before after : P) (status : StoreStatus) : Type 0 where
    pub status_is : status ≡ ran
    pub sink : new ≡ old
    pub keeper : after ≡ before

  -- behind a script that ended so space was managed on this day, or nothing more was done
  abbrev pub EndsBehind : Option ℕ → StoreStatus → Seen → Seen → P → P → StoreStatus → Type 0
  EndsBehind None ran old new before after status = IsLeft ran old new before after status
  EndsBehind (Some day) ran old new before after status = StoreDayEnds told_by damage day old new before after status

  -- the number is that of the status with which a script was answered on the store and space was managed behind it, and
  -- of whether the answers are good, which all are where it isn't strict
  pub record EndsRun (running : Running) (old new : Observed) (before after : P) (code : ℕ) : Type 0 where
    -- the status of the script, and what is told of the streams and of the keeper behind it
    pub ran : StoreStatus
    pub between : Observed
    pub answered : P
    pub script : StoreRunEnds told_by damage running.volumes old between before answered ran
    pub status : StoreStatus
    pub unread : IsUnread between new
    pub managed : EndsBehind (day_behind running.managed ran) ran (sink_of between) (sink_of new) answered after status
    pub good : Bool
    pub lenient : running.strict ≡ false → good ≡ true
    pub code_is : code ≡ judged_status_of status good

  -- the number is that of the status with which the store was listed
  pub record EndsList (query : Query) (old new : Seen) (before after : P) (code : ℕ) : Type 0 where
    pub status : StoreStatus
    pub ends : StoreListEnds told_by damage query old new before after status
    pub code_is : code ≡ store_status_of status

  -- what each status says of space management on a day, done or only told
  abbrev pub ManageEnds : Bool → ℕ → Seen → Seen → P → P → StoreStatus → Type 0
  ManageEnds true day old new before after status = StoreDueEnds told_by damage day old new before after status
  ManageEnds false day old new before after status = StoreDayEnds told_by damage day old new before after status

  -- the number is that of its status
  pub record EndsManage (dry : Bool) (day : ℕ) (old new : Seen) (before after : P) (code : ℕ) : Type 0 where
    pub status : StoreStatus
    pub ends : ManageEnds dry day old new before after status
    pub code_is : code ≡ store_status_of status

  -- the number is that of the status with which a deck was checked on the store, and of whether it would be active
  pub record EndsCheck (old new : Observed) (before after : P) (code : ℕ) : Type 0 where
    pub status : StoreStatus
    pub good : Bool
    pub ends : StoreCheckEnds told_by damage good old new before after status
    pub code_is : code ≡ judged_status_of status good
