-- What a run says of the keeper as the desk found it, said of the keeper as it was handed in.
use Rattle.std.proofs.Common.{◌≡◌, ◌∙◌, true, false, None, Some, inl, inr}
use Rattle.std.specs.Prelude.{ℕ, IfSome, Option}
use Rattle.desk_law.specs.State.{Opening}
use Rattle.sms_base.specs.Observed.{Observed}
use Rattle.sms_keeper.specs.Loading.{AreLoaded, SameDamage, StaysDamaged}
use Rattle.sms_keeper.specs.Tables.{AreSame}
use Rattle.sms_keeper.specs.Told.{Stays}
use Rattle.sms_keeper.specs.declared.rows.Rows.{Rows}
use Rattle.sms_keeper.specs.declared.keeper.Keeper.{Ghosts}
use Rattle.sms_keeper.specs.declared.table.Table.{Table}
use Rattle.sms_core.specs.Core.{WasTold}
use Rattle.sms_open.specs.Reopening.{IsOpened}
use Rattle.desk_calls.specs.RunFault.{RunEnds, leaves_keeper}
use Rattle.desk_calls.specs.declared.status.RunStatus.{RunStatus}
use Rattle.desk_calls.specs.declared.status.RunStatus.TheVariants as runs
use Rattle.db_calls.specs.DbEnds.{DbEnds, HasStoreFault, IsUnopened, WasReopened, keeping_of}
use Rattle.db_calls.specs.declared.status.DbStatus.{DbStatus}
use Rattle.db_calls.specs.declared.status.DbStatus.TheVariants.{Ran, StoreFault, Store}

-- the same tables, one after the other
same_on : (a b c : Rows) → AreSame a b → AreSame b c → AreSame a c
same_on a b c first second = record {
  sets = λ dsn. first.sets dsn ∙ second.sets dsn;
  replies = λ job number. first.replies job number ∙ second.replies job number;
  decks = λ count. first.decks count ∙ second.decks count;
  statuses = λ target. first.statuses target ∙ second.statuses target;
  floors = λ job. first.floors job ∙ second.floors job;
}

-- what stays twice stays
pub stays_on : (a b c : Option Rows) → Stays a b → Stays b c → Stays a c
stays_on a b None first second = tt
stays_on a b (Some rows) first second =
    let at : Stays a (Some second.0) = rw second.1 at first in
    (at.0, at.1, same_on rows second.0 at.0 second.2 at.2)

-- what is told in the end was told before, and is what was loaded
pub begun_of : (rows : Rows) (before mid after : Option Rows) → Stays before mid → WasTold mid after → IfSome mid (λ tables. AreLoaded tables rows)
    → IfSome after (λ _. (old : Rows) × (before ≡ Some old) × AreSame rows old)
begun_of rows before mid None stays told loaded = tt
begun_of rows before None (Some after) stays told loaded = absurd cc
begun_of rows before (Some found) (Some after) stays told loaded = (stays.0, stays.1, same_on rows found stays.0 loaded.same stays.2)

-- the same, said of what was told before that
begun_on : (rows : Rows) (before ready after : Option Rows) → Stays before ready → IfSome after (λ _. (old : Rows) × (ready ≡ Some old) × AreSame rows old)
    → IfSome after (λ _. (old : Rows) × (before ≡ Some old) × AreSame rows old)
begun_on rows before ready None stays begun = tt
begun_on rows before ready (Some after) stays begun =
    let at : Stays before (Some begun.0) = rw begun.1 at stays in
    (at.0, at.1, same_on rows begun.0 at.0 begun.2 at.2)

-- damage that is told behind both is the same
pub same_damage_on : (a b c : Option (Table × ℕ)) → SameDamage a b → StaysDamaged b c → SameDamage a c
same_damage_on None b c first second = tt
same_damage_on (Some found) b None first second = tt
same_damage_on (Some found) b (Some still) first second =
    let at : SameDamage (Some found) (Some still) = rw second at first in at

module _ {P : Type 0} (told_by : Ghosts P) (damage : P → Option (Table × ℕ)) where
  -- a run over a desk that was opened
  pub run_ends : (old new : Observed) (before mid after : P) (o : Opening) (status : RunStatus) → IsOpened (told_by.told mid) o → damage mid ≡ None
      → Stays (told_by.told before) (told_by.told mid) → told_by.count mid ≡ told_by.count before
      → RunEnds o false 1 old new (keeping_of told_by mid) (keeping_of told_by after) status → (leaves_keeper status ≡ true → after ≡ mid)
      → IfSome (told_by.told after) (λ _. (rows : Rows) × (told_by.told before ≡ Some rows) × AreSame o.rows rows) → DbEnds told_by damage old new before after (Ran status)
  run_ends old new before mid after o runs.Done opened sound tables count ends unrun begun = record { mid = mid; opening = o; opened = opened; undamaged = sound; tables = tables; count = count; ends = ends; begun = begun; unrun = unrun }
  run_ends old new before mid after o runs.BadWords opened sound tables count ends unrun begun = ends
  run_ends old new before mid after o runs.ReadFault opened sound tables count ends unrun begun = record { mid = mid; opening = o; opened = opened; undamaged = sound; tables = tables; count = count; ends = ends; begun = begun; unrun = unrun }
  run_ends old new before mid after o runs.WriteFault opened sound tables count ends unrun begun = record { mid = mid; opening = o; opened = opened; undamaged = sound; tables = tables; count = count; ends = ends; begun = begun; unrun = unrun }
  run_ends old new before mid after o (runs.Script err) opened sound tables count ends unrun begun =
      record { mid = mid; opening = o; opened = opened; undamaged = sound; tables = tables; count = count; ends = ends; begun = begun; unrun = unrun }
  run_ends old new before mid after o runs.TooLong opened sound tables count ends unrun begun = record { mid = mid; opening = o; opened = opened; undamaged = sound; tables = tables; count = count; ends = ends; begun = begun; unrun = unrun }
  run_ends old new before mid after o runs.NoMemory opened sound tables count ends unrun begun =
      inl (record { mid = mid; opening = o; opened = opened; undamaged = sound; tables = tables; count = count; ends = ends; begun = begun; unrun = unrun })

  -- behind a making ready the same is said of the keeper before it

  behind-reopened : (old new : Observed) (before ready after : P) (status : RunStatus) → Stays (told_by.told before) (told_by.told ready) → told_by.count ready ≡ told_by.count before
      → WasReopened told_by damage old new ready after status → WasReopened told_by damage old new before after status
  behind-reopened old new before ready after status tables count was = record {
    mid = was.mid;
    opening = was.opening;
    opened = was.opened;
    undamaged = was.undamaged;
    tables = stays_on (told_by.told before) (told_by.told ready) (told_by.told was.mid) tables was.tables;
    count = was.count ∙ count;
    ends = was.ends;
    begun = begun_on was.opening.rows (told_by.told before) (told_by.told ready) (told_by.told after) tables was.begun;
    unrun = was.unrun;
  }

  behind-unopened : (old new : Observed) (before ready after : P) → Stays (told_by.told before) (told_by.told ready) → told_by.count ready ≡ told_by.count before
      → IsUnopened told_by damage old new ready after → IsUnopened told_by damage old new before after
  behind-unopened old new before ready after tables count was = record {
    unread = was.unread;
    reads = was.reads;
    read_faults = was.read_faults;
    tables = stays_on (told_by.told before) (told_by.told ready) (told_by.told after) tables was.tables;
    count = was.count ∙ count;
  }

  behind-fault : (before ready after : P) → Stays (told_by.told before) (told_by.told ready) → told_by.count ready ≡ told_by.count before
      → HasStoreFault told_by damage ready after → HasStoreFault told_by damage before after
  behind-fault before ready after tables count fault = record {
    rose = rw count at fault.rose;
    tables = stays_on (told_by.told before) (told_by.told ready) (told_by.told after) tables fault.tables;
  }

  pub behind_ready : (old new : Observed) (before ready after : P) (status : DbStatus) → Stays (told_by.told before) (told_by.told ready) → told_by.count ready ≡ told_by.count before
      → DbEnds told_by damage old new ready after status → DbEnds told_by damage old new before after status
  behind_ready old new before ready after (Ran runs.Done) tables count ends = behind-reopened old new before ready after runs.Done tables count ends
  behind_ready old new before ready after (Ran runs.BadWords) tables count ends = ends
  behind_ready old new before ready after (Ran runs.ReadFault) tables count ends = behind-reopened old new before ready after runs.ReadFault tables count ends
  behind_ready old new before ready after (Ran runs.WriteFault) tables count ends = behind-reopened old new before ready after runs.WriteFault tables count ends
  behind_ready old new before ready after (Ran (runs.Script err)) tables count ends = behind-reopened old new before ready after (runs.Script err) tables count ends
  behind_ready old new before ready after (Ran runs.TooLong) tables count ends = behind-reopened old new before ready after runs.TooLong tables count ends
  behind_ready old new before ready after (Ran runs.NoMemory) tables count (inl was) = inl (behind-reopened old new before ready after runs.NoMemory tables count was)
  behind_ready old new before ready after (Ran runs.NoMemory) tables count (inr was) = inr (behind-unopened old new before ready after tables count was)
  behind_ready old new before ready after StoreFault tables count ends = behind-fault before ready after tables count ends
  behind_ready old new before ready after (Store err) tables count ends = behind-unopened old new before ready after tables count ends
