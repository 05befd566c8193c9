-- How a run over a stored keeper ends: each status and its cause.
use Rattle.std.specs.Prelude.{◌≡◌, ◌⊎◌, ℕ, Bool, true, false, Option, None, Some, IfSome}
use Rattle.desk_common.specs.Causes.{Rose}
use Rattle.sms_base.specs.Observed.{Observed}
use Rattle.sms_keeper.specs.Tables.{AreSame}
use Rattle.sms_keeper.specs.Told.{Stays}
use Rattle.sms_keeper.specs.declared.keeper.Keeper.{Ghosts}
use Rattle.sms_keeper.specs.declared.rows.Rows.{Rows}
use Rattle.sms_keeper.specs.declared.table.Table.{Table}
use Rattle.desk_law.specs.State.{Opening}
use Rattle.sms_open.specs.Reopening.{IsOpened}
use Rattle.sms_open.specs.declared.open_err.OpenErr.{OpenErr}
use Rattle.sms_open.specs.declared.open_err.OpenErr.TheVariants as refusals
use Rattle.desk_calls.specs.ExitStatus.{exit_status_of}
use Rattle.desk_calls.specs.Headline.{Keeping}
use Rattle.desk_calls.specs.RunFault.{RunEnds, leaves_keeper, leaves_sink}
use Rattle.desk_calls.specs.declared.status.RunStatus.{RunStatus}
use Rattle.desk_calls.specs.declared.status.RunStatus.TheVariants as runs
use Rattle.db_calls.specs.declared.status.DbStatus.{DbStatus}
use Rattle.db_calls.specs.declared.status.DbStatus.TheVariants.{Ran, StoreFault, Store}

-- the number that each ending is told by
abbrev pub db_status_of : DbStatus → ℕ
db_status_of (Ran status) = exit_status_of status
db_status_of StoreFault = 10
db_status_of (Store err) = 11

-- the statuses with which nothing is written
abbrev pub leaves_sink_of : DbStatus → Bool
leaves_sink_of (Ran status) = leaves_sink status
leaves_sink_of StoreFault = true
leaves_sink_of (Store err) = true

-- what is told of a keeper, and how many faults it has counted
abbrev pub keeping_of : {P : Type 0} → Ghosts P → P → Keeping
keeping_of told_by keeper = record { told = told_by.told keeper; count = told_by.count keeper }

module _ {P : Type 0} (told_by : Ghosts P) (damage : P → Option (Table × ℕ)) where
  -- a desk went on from the tables of the keeper, which was made ready, and the script of the source was answered there
  pub record WasReopened (old new : Observed) (before after : P) (status : RunStatus) : Type 0 where
    -- the keeper as the desk found it
    pub mid : P
    pub opening : Opening
    -- what the desk begins with: sound rows, which are the tables where these are told
    pub opened : IsOpened (told_by.told mid) opening
    pub undamaged : damage mid ≡ None
    pub tables : Stays (told_by.told before) (told_by.told mid)
    pub count : told_by.count mid ≡ told_by.count before
    pub ends : RunEnds opening false 1 old new (keeping_of told_by mid) (keeping_of told_by after) status
    -- where tables are told in the end they were told before, and are what the desk begins with
    pub begun : IfSome (told_by.told after) (λ _. (rows : Rows) × (told_by.told before ≡ Some rows) ×
        AreSame opening.rows rows)
    -- where nothing was run, the keeper is as the desk found it
    pub unrun : leaves_keeper status ≡ true → after ≡ mid

  -- no desk was opened, and the keeper didn't fail; the source is unread
  pub record IsUnopened (old new : Observed) (before after : P) : Type 0 where
    pub unread : new.left ≡ old.left
    pub reads : new.reads ≡ old.reads
    pub read_faults : new.read_faults ≡ old.read_faults
    pub tables : Stays (told_by.told before) (told_by.told after)
    pub count : told_by.count after ≡ told_by.count before

  -- the keeper failed when it was made ready, or when its tables were loaded
  pub record HasStoreFault (before after : P) : Type 0 where
    pub rose : Rose (told_by.count before) (told_by.count after)
    pub tables : Stays (told_by.told before) (told_by.told after)

  -- what each status says, where the words name a file
  abbrev pub DbEnds : Observed → Observed → P → P → DbStatus → Type 0
  DbEnds old new before after (Ran runs.Done) = WasReopened old new before after runs.Done
  DbEnds old new before after (Ran runs.BadWords) = ⊥
  DbEnds old new before after (Ran runs.ReadFault) = WasReopened old new before after runs.ReadFault
  DbEnds old new before after (Ran runs.WriteFault) = WasReopened old new before after runs.WriteFault
  DbEnds old new before after (Ran (runs.Script err)) = WasReopened old new before after (runs.Script err)
  DbEnds old new before after (Ran runs.TooLong) = WasReopened old new before after runs.TooLong
  DbEnds old new before after (Ran runs.NoMemory) =
      WasReopened old new before after runs.NoMemory ⊎ IsUnopened old new before after
  DbEnds old new before after StoreFault = HasStoreFault before after
  DbEnds old new before after (Store err) = IsUnopened old new before after

-- the refusals of a store that the status tells: a damaged row, and rows that fail a test
abbrev pub is_told : OpenErr → Bool
is_told refusals.Failed = false
is_told (refusals.Damaged table row) = true
is_told (refusals.Unsound number) = true
is_told refusals.NoMemory = false
