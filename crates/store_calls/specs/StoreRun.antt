-- How a script on a store ends: each status and its cause.
use Rattle.std.specs.Prelude.{◌≡◌, ℕ, Bool, true, Option, Some, IfSome}
use Rattle.sms_base.specs.Observed.{Observed}
use Rattle.sms_keeper.specs.Tables.{AreSame}
use Rattle.sms_keeper.specs.declared.keeper.Keeper.{Ghosts}
use Rattle.sms_keeper.specs.declared.rows.Rows.{Rows}
use Rattle.sms_keeper.specs.declared.table.Table.{Table}
use Rattle.desk_law.specs.State.{Opening}
use Rattle.desk_calls.specs.Headline.{Keeping}
use Rattle.desk_calls.specs.RunFault.{RunEnds, leaves_keeper}
use Rattle.desk_calls.specs.declared.status.RunStatus.{RunStatus}
use Rattle.store_calls.specs.Opened.{IsUnopened, WasOpened}
use Rattle.store_calls.specs.declared.status.StoreStatus.{StoreStatus}
use Rattle.store_calls.specs.declared.status.StoreStatus.TheVariants.{Ran, Unopened}

-- what is told of a keeper, and how many faults it has counted
abbrev pub keeping_of : {P : Type 0} → Ghosts P → P → Keeping
keeping_of told_by keeper = record { told = told_by.told keeper; count = told_by.count keeper }

module _ {P : Type 0} (told_by : Ghosts P) (damage : P → Option (Table × ℕ)) where
  -- a desk went on from the tables of the keeper, and the script of the source was answered there by one worker
  pub record WasStoreRun (volumes : Bool) (old new : Observed) (before after : P) (status : RunStatus) : Type 0 where
    -- the keeper as the desk found it
    pub mid : P
    pub opening : Opening
    pub opened : WasOpened told_by damage before mid opening
    pub ends : RunEnds opening volumes 1 old new (keeping_of told_by mid) (keeping_of told_by after) status
    -- where tables are told in the end they were told before, and are what the desk began with
    pub begun : IfSome (told_by.told after) (λ _. (rows : Rows) × (told_by.told before ≡ Some rows) ×
        AreSame opening.rows rows)
    -- where nothing was run, the keeper is as the desk found it
    pub unrun : leaves_keeper status ≡ true → after ≡ mid

  -- what each status says
  abbrev pub StoreRunEnds : Bool → Observed → Observed → P → P → StoreStatus → Type 0
  StoreRunEnds volumes old new before after (Ran status) = WasStoreRun volumes old new before after status
  StoreRunEnds volumes old new before after (Unopened err) = IsUnopened told_by damage before after err
