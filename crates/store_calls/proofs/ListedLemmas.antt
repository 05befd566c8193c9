-- What is listed, and what is said of a store that isn't.
use Rattle.std.proofs.Common.{◌≡◌, ◌∙◌, refl, None, Ok, Err, IfOk, IfErr, Result, inl, inr, ◌⊎◌}
use Rattle.std.specs.Prelude.{ℕ, IfSome, IsErrOf, Option}
use Rattle.desk_common.specs.Causes.{Rose}
use Rattle.desk_restoring.specs.Opened.{opening_of}
use Rattle.sms_construct.specs.Configuration.{Configuration}
use Rattle.sms_keeper.specs.Loading.{AreLoaded, NamesDamage, SameDamage, StaysDamaged}
use Rattle.sms_keeper.specs.Told.{Stays}
use Rattle.sms_keeper.specs.declared.keeper.Keeper.{Ghosts}
use Rattle.sms_keeper.specs.declared.load_err.LoadErr.{LoadErr}
use Rattle.sms_keeper.specs.declared.load_err.LoadErr.TheVariants as loads
use Rattle.sms_keeper.specs.declared.rows.Rows.{Rows}
use Rattle.sms_keeper.specs.declared.table.Table.{Table}
use Rattle.sms_open.specs.Reopening.{IsOpened, NamesRefusal, refusal_of_load, refusal_of_rows}
use Rattle.sms_open.specs.Verdicts.{IsVerdict}
use Rattle.sms_open.specs.declared.open_err.OpenErr.{OpenErr}
use Rattle.sms_open.specs.declared.open_err.OpenErr.TheVariants.{Failed}
use Rattle.sms_open.specs.declared.rows_err.RowsErr.{RowsErr}
use Rattle.sms_open.specs.declared.rows_err.RowsErr.TheVariants.{Unsound, NoMemory}
use Rattle.store_calls.specs.Opened.{IsUnopened, WasOpened}
use Rattle.store_calls.specs.declared.loading.FoundRows.{FoundRows}
use Rattle.store_calls.proofs.OpenedLemmas.{same_of_stays, same_on_damage, stays_on}

-- rows that fail a test are told by its number
pub names_rows : (told : Option Rows) (damage : Option (Table × ℕ)) (rows : Rows) (err : RowsErr) → damage ≡ None → IfSome told (λ tables. AreLoaded tables rows)
    → IsVerdict rows (Err err) ⊎ IsErrOf {T = Option Configuration} (Err err) NoMemory → NamesRefusal told damage (refusal_of_rows err)
names_rows told damage rows (Unsound number) none tables (inl verdict) = (none, record { rows = rows; tables = tables; verdict = verdict })
names_rows told damage rows (Unsound number) none tables (inr wanting) = absurd cc
names_rows told damage rows NoMemory none tables verdict = tt

names_load : (told : Option Rows) (damage : Option (Table × ℕ)) (err : LoadErr) → NamesDamage told damage err → NamesRefusal told damage (refusal_of_load err)
names_load told damage loads.Failed names = tt
names_load told damage (loads.Damaged table row) names = names
names_load told damage loads.NoMemory names = tt

pub not_failed : (err : RowsErr) → refusal_of_rows err ≡ Failed → ⊥
not_failed (Unsound number) e = cc e
not_failed NoMemory e = cc e

verdict_of : (rows : Rows) (config : Option Configuration) → IsVerdict rows (Ok config) ⊎ IsErrOf (Ok config) NoMemory → IsVerdict rows (Ok config)
verdict_of rows config (inl verdict) = verdict
verdict_of rows config (inr wanting) = let bad : ⊥ = cc in absurd bad

load_cause : (err : LoadErr) (rose : Type 0) → (IsErrOf {T = Rows} (Err err) loads.Failed → rose) → refusal_of_load err ≡ Failed → rose
load_cause loads.Failed rose cause e = cause refl
load_cause (loads.Damaged table row) rose cause e = absurd (cc e)
load_cause loads.NoMemory rose cause e = absurd (cc e)

load_unfailed : (err : LoadErr) (same : Type 0) → ((IsErrOf {T = Rows} (Err err) loads.Failed → ⊥) → same) → (refusal_of_load err ≡ Failed → ⊥) → same
load_unfailed loads.Failed same stands other = absurd (other refl)
load_unfailed (loads.Damaged table row) same stands other = stands (λ e. cc e)
load_unfailed loads.NoMemory same stands other = stands (λ e. cc e)

-- rows that pass all tests, as the opening that they give
pub opened_rows : (told : Option Rows) (rows : Rows) (config : Option Configuration) → IfSome told (λ tables. AreLoaded tables rows)
    → IsVerdict rows (Ok config) ⊎ IsErrOf (Ok config) NoMemory → IsOpened told (opening_of rows config)
opened_rows told rows config loaded verdict = record { tables = loaded; verdict = verdict_of rows config verdict; opening = refl }

module _ {P : Type 0} (told_by : Ghosts P) (damage : P → Option (Table × ℕ)) where
  -- rows that were loaded and tested
  pub loaded_case : (r : Result (P × FoundRows) (P × OpenErr)) (before after : P) → damage after ≡ None → Stays (told_by.told before) (told_by.told after) → told_by.count after ≡ told_by.count before
      → IfOk r (λ found. found.0 ≡ after) → IfOk r (λ found. IsOpened (told_by.told after) (opening_of found.1.rows found.1.config))
      → IfOk r (λ found. WasOpened told_by damage before found.0 (opening_of found.1.rows found.1.config))
  loaded_case (Ok found) before after sound kept stands same opened = rw same (record { opened = opened; undamaged = sound; tables = kept; count = stands })
  loaded_case (Err back) before after sound kept stands same opened = tt

  pub tested_case : (r : Result (P × FoundRows) (P × OpenErr)) (before after : P) → Stays (told_by.told before) (told_by.told after) → StaysDamaged (damage before) (damage after)
      → told_by.count after ≡ told_by.count before → IfErr r (λ back. back.0 ≡ after) → IfErr r (λ back. NamesRefusal (told_by.told after) (damage after) back.1)
      → IfErr r (λ back. back.1 ≡ Failed → ⊥) → IfErr r (λ back. IsUnopened told_by damage before back.0 back.1)
  tested_case (Ok found) before after kept damaged stands same names unfailed = tt
  tested_case (Err back) before after kept damaged stands same names unfailed = rw same (record {
    tables = kept;
    damage_stays = same_of_stays (damage before) (damage after) damaged;
    names = names;
    cause = λ failed. absurd (unfailed failed);
    unfailed = λ other. stands;
  })

  -- rows that weren't found leave the damage that is told
  pub left_case : (r : Result (P × FoundRows) (P × OpenErr)) (before after : P) → StaysDamaged (damage before) (damage after) → IfErr r (λ back. back.0 ≡ after)
      → IfErr r (λ back. StaysDamaged (damage before) (damage back.0))
  left_case (Ok found) before after damaged same = tt
  left_case (Err back) before after damaged same = rw same damaged

  -- rows that were found behind a making ready
  pub found_case : (r : Result (P × FoundRows) (P × OpenErr)) (before ready : P) → Stays (told_by.told before) (told_by.told ready) → told_by.count ready ≡ told_by.count before
      → IfOk r (λ found. WasOpened told_by damage ready found.0 (opening_of found.1.rows found.1.config))
      → IfOk r (λ found. WasOpened told_by damage before found.0 (opening_of found.1.rows found.1.config))
  found_case (Ok found) before ready kept stands opened = record {
    opened = opened.opened;
    undamaged = opened.undamaged;
    tables = stays_on (told_by.told before) (told_by.told ready) (told_by.told found.0) kept opened.tables;
    count = opened.count ∙ stands;
  }
  found_case (Err back) before ready kept stands opened = tt

  -- and rows that weren't
  pub unfound_case : (r : Result (P × FoundRows) (P × OpenErr)) (before ready : P) → Stays (told_by.told before) (told_by.told ready) → SameDamage (damage before) (damage ready)
      → told_by.count ready ≡ told_by.count before → IfErr r (λ back. IsUnopened told_by damage ready back.0 back.1)
      → IfErr r (λ back. StaysDamaged (damage ready) (damage back.0)) → IfErr r (λ back. IsUnopened told_by damage before back.0 back.1)
  unfound_case (Ok found) before ready kept same stands refused damaged = tt
  unfound_case (Err back) before ready kept same stands refused damaged = record {
    tables = stays_on (told_by.told before) (told_by.told ready) (told_by.told back.0) kept refused.tables;
    damage_stays = same_on_damage (damage before) (damage ready) (damage back.0) same damaged;
    names = refused.names;
    cause = λ failed. rw stands at (refused.cause failed);
    unfailed = λ other. refused.unfailed other ∙ stands;
  }

  -- tables that weren't loaded
  pub refused_load : (before after : P) (err : LoadErr) → NamesDamage (told_by.told after) (damage after) err → Stays (told_by.told before) (told_by.told after)
      → StaysDamaged (damage before) (damage after) → (IsErrOf {T = Rows} (Err err) loads.Failed → Rose (told_by.count before) (told_by.count after))
      → ((IsErrOf {T = Rows} (Err err) loads.Failed → ⊥) → told_by.count after ≡ told_by.count before) → IsUnopened told_by damage before after (refusal_of_load err)
  refused_load before after err names kept damaged cause stands = record {
    tables = kept;
    damage_stays = same_of_stays (damage before) (damage after) damaged;
    names = names_load (told_by.told after) (damage after) err names;
    cause = load_cause err (Rose (told_by.count before) (told_by.count after)) cause;
    unfailed = load_unfailed err (told_by.count after ≡ told_by.count before) stands;
  }
