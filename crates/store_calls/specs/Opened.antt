-- A desk that goes on from a store, and why there is none.
use Rattle.std.specs.Prelude.{◌≡◌, ℕ, Option, None}
use Rattle.desk_common.specs.Causes.{Rose}
use Rattle.desk_law.specs.State.{Opening}
use Rattle.sms_keeper.specs.Loading.{SameDamage}
use Rattle.sms_keeper.specs.Told.{Stays}
use Rattle.sms_keeper.specs.declared.keeper.Keeper.{Ghosts}
use Rattle.sms_keeper.specs.declared.table.Table.{Table}
use Rattle.sms_open.specs.Reopening.{IsOpened, NamesRefusal}
use Rattle.sms_open.specs.declared.open_err.OpenErr.{OpenErr}
use Rattle.sms_open.specs.declared.open_err.OpenErr.TheVariants.{Failed}

module _ {P : Type 0} (told_by : Ghosts P) (damage : P → Option (Table × ℕ)) where
  -- a desk goes on with this opening from the tables of the keeper, which stay as they were
  pub record WasOpened (before mid : P) (o : Opening) : Type 0 where
    -- sound rows, which are the tables where these are told
    pub opened : IsOpened (told_by.told mid) o
    pub undamaged : damage mid ≡ None
    pub tables : Stays (told_by.told before) (told_by.told mid)
    pub count : told_by.count mid ≡ told_by.count before

  -- no desk goes on from the tables of the keeper, for this cause; they stay as they were
  pub record IsUnopened (before after : P) (err : OpenErr) : Type 0 where
    pub tables : Stays (told_by.told before) (told_by.told after)
    pub damage_stays : SameDamage (damage before) (damage after)
    -- a refusal is that of what the keeper tells
    pub names : NamesRefusal (told_by.told after) (damage after) err
    -- a fault of the keeper is told where its count rose, and nowhere else
    pub cause : err ≡ Failed → Rose (told_by.count before) (told_by.count after)
    pub unfailed : (err ≡ Failed → ⊥) → told_by.count after ≡ told_by.count before
