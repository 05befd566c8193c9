-- What is said of the keeper as a desk found it, said of the keeper as it was handed in.
use Rattle.std.proofs.Common.{◌≡◌, ◌∙◌, sym, None, Some, Ok, Err, IfOk, IfErr, Result}
use Rattle.std.proofs.lemmas.Option.{same_Some}
use Rattle.std.specs.Prelude.{ℕ, IfSome, Option}
use Rattle.desk_common.specs.Causes.{Rose}
use Rattle.sms_core.specs.Core.{CoreView, WasTold}
use Rattle.sms_keeper.specs.Loading.{AreLoaded, SameDamage, StaysDamaged}
use Rattle.sms_keeper.specs.Tables.{AreSame}
use Rattle.sms_keeper.specs.Told.{Stays}
use Rattle.sms_keeper.specs.declared.keeper.Keeper.{Ghosts}
use Rattle.sms_keeper.specs.declared.rows.Rows.{Rows}
use Rattle.sms_keeper.specs.declared.table.Table.{Table}
use Rattle.sms_open.specs.Reopening.{IsOpened, NamesRefusal}
use Rattle.sms_open.specs.declared.open_err.OpenErr.{OpenErr}
use Rattle.sms_open.specs.declared.open_err.OpenErr.TheVariants.{Failed}
use Rattle.store_calls.specs.Opened.{IsUnopened, WasOpened}

-- the same tables, one after the other
same_on : (a b c : Rows) → AreSame a b → AreSame b c → AreSame a c
same_on a b c first second = record {
  sets = λ dsn. first.sets dsn ∙ second.sets dsn;
  replies = λ job number. first.replies job number ∙ second.replies job number;
  decks = λ count. first.decks count ∙ second.decks count;
  statuses = λ target. first.statuses target ∙ second.statuses target;
  floors = λ job. first.floors job ∙ second.floors job;
}

-- what stays twice stays
pub stays_on : (a b c : Option Rows) → Stays a b → Stays b c → Stays a c
stays_on a b None first second = tt
stays_on a b (Some rows) first second =
    let at : Stays a (Some second.0) = rw second.1 at first in
    (at.0, at.1, same_on rows second.0 at.0 second.2 at.2)

-- what is told in the end was told before, and is what was loaded
pub begun_of : (rows : Rows) (before mid after : Option Rows) → Stays before mid → WasTold mid after → IfSome mid (λ tables. AreLoaded tables rows)
    → IfSome after (λ _. (old : Rows) × (before ≡ Some old) × AreSame rows old)
begun_of rows before mid None stays told loaded = tt
begun_of rows before None (Some after) stays told loaded = absurd cc
begun_of rows before (Some found) (Some after) stays told loaded = (stays.0, stays.1, same_on rows found stays.0 loaded.same stays.2)

-- damage that stays is the same
pub same_of_stays : (a b : Option (Table × ℕ)) → StaysDamaged a b → SameDamage a b
same_of_stays None b stays = tt
same_of_stays (Some found) None stays = tt
same_of_stays (Some found) (Some still) stays = sym (same_Some _ _ stays)

-- the same, behind damage that is the same
pub same_on_damage : (a b c : Option (Table × ℕ)) → SameDamage a b → StaysDamaged b c → SameDamage a c
same_on_damage None b c first second = tt
same_on_damage (Some found) b None first second = tt
same_on_damage (Some found) b (Some still) first second =
    let at : SameDamage (Some found) (Some still) = rw second at first in at

module _ {P : Type 0} (told_by : Ghosts P) (damage : P → Option (Table × ℕ)) where
  -- a desk that was reopened behind a making ready
  pub opened_case : (r : Result (CoreView P) (P × OpenErr)) (before ready : P) → Stays (told_by.told before) (told_by.told ready) → told_by.count ready ≡ told_by.count before
      → IfOk r (λ core. IsOpened (told_by.told core.keeper) core.opening) → IfOk r (λ core. damage core.keeper ≡ None)
      → IfOk r (λ core. Stays (told_by.told ready) (told_by.told core.keeper)) → IfOk r (λ core. told_by.count core.keeper ≡ told_by.count ready)
      → IfOk r (λ core. WasOpened told_by damage before core.keeper core.opening)
  opened_case (Ok core) before ready tables count opened sound kept stands =
      record { opened = opened; undamaged = sound; tables = stays_on (told_by.told before) (told_by.told ready) (told_by.told core.keeper) tables kept; count = stands ∙ count }
  opened_case (Err back) before ready tables count opened sound kept stands = tt

  pub mark_case : (r : Result (CoreView P) (P × OpenErr)) (ready : P) → IfOk r (λ core. core.mark ≡ told_by.count ready)
      → IfOk r (λ core. told_by.count core.keeper ≡ told_by.count ready) → IfOk r (λ core. core.mark ≡ told_by.count core.keeper)
  mark_case (Ok core) ready mark stands = mark ∙ sym stands
  mark_case (Err back) ready mark stands = tt

  -- no desk, behind a making ready
  pub refused_case : (r : Result (CoreView P) (P × OpenErr)) (before ready : P) → Stays (told_by.told before) (told_by.told ready) → SameDamage (damage before) (damage ready)
      → told_by.count ready ≡ told_by.count before
      → IfErr r (λ back. NamesRefusal (told_by.told back.0) (damage back.0) back.1) → IfErr r (λ back. Stays (told_by.told ready) (told_by.told back.0))
      → IfErr r (λ back. StaysDamaged (damage ready) (damage back.0))
      → IfErr r (λ back. back.1 ≡ Failed → Rose (told_by.count ready) (told_by.count back.0))
      → IfErr r (λ back. (back.1 ≡ Failed → ⊥) → told_by.count back.0 ≡ told_by.count ready)
      → IfErr r (λ back. IsUnopened told_by damage before back.0 back.1)
  refused_case (Ok core) before ready tables same count names left damaged cause unfailed = tt
  refused_case (Err back) before ready tables same count names left damaged cause unfailed = record {
    tables = stays_on (told_by.told before) (told_by.told ready) (told_by.told back.0) tables left;
    damage_stays = same_on_damage (damage before) (damage ready) (damage back.0) same damaged;
    names = names;
    cause = λ failed. rw count at (cause failed);
    unfailed = λ other. unfailed other ∙ count;
  }
