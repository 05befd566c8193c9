-- The statuses of all targets, from those of storage groups, volumes and data sets.
use Rattle.std.proofs.Common.{◌≡◌, ℕ, zero, suc, Bool, true, false, cond, List, [], ◌∷◌, Option, None, Some, Result}
use Rattle.std.proofs.Common.{length, refl, sym, arith}
use Rattle.std.specs.Prelude.{IfOk, not, ◌&&◌, ◌==◌}
use Rattle.std.specs.List.{AllByRecursion, list_all}
use Rattle.std.proofs.lemmas.Bool.Decides.{Decides-eqb}
use Rattle.sms_construct.specs.Configuration.{Configuration}
use Rattle.sms_construct.specs.declared.target.Target.{Target}
use Rattle.sms_construct.specs.declared.target.Target.TheVariants as targets
use Rattle.sms_keeper.specs.declared.status_row.StatusRow.{StatusRow}
use Rattle.sms_keeper.specs.Tables.{same_target}
use Rattle.desk_law.specs.Statuses.{may_have, times_status}
use Rattle.desk_law.specs.Volumes.{times_group, times_target, times_volume}
use Rattle.desk_law.proofs.ByteLemmas.{bytes-self}
use Rattle.sms_open.specs.Inner.Targets.{is_set}
use Rattle.sms_open.specs.Tests.{AreStatusesOf}
use Rattle.sms_open.specs.Verdicts.{Tells}
use Rattle.sms_open.proofs.NameLemmas.{told-alike}

pub own-target : (t : Target) → same_target t t ≡ true
own-target (targets.Group n) = bytes-self n
own-target (targets.Volume n) = bytes-self n
own-target (targets.Set n) = bytes-self n

-- the abbreviation of a test of each row
abbrev no_sets : List StatusRow → Bool
no_sets rows = list_all (λ (row : StatusRow). not (is_set row.target)) rows

set-off : (t : Target) (dsn : List ℕ) → not (is_set t) ≡ true → same_target t (targets.Set dsn) ≡ false
set-off (targets.Group n) dsn is = refl
set-off (targets.Volume n) dsn is = refl
set-off (targets.Set n) dsn is = absurd cc

both-true : (a b : Bool) → (a && b) ≡ true → (a ≡ true) × (b ≡ true)
both-true true b is = (refl, is)
both-true false b is = absurd cc

-- where no row is of a data set
none-of-set : (dsn : List ℕ) (rows : List StatusRow) → no_sets rows ≡ true → times_status (targets.Set dsn) rows ≡ 0
none-of-set dsn [] is = refl
none-of-set dsn (row ∷ rows) is =
    let parts = both-true (not (is_set row.target)) (no_sets rows) is in
    let here : cond (same_target row.target (targets.Set dsn)) 1 zero ≡ zero = rw (set-off row.target dsn parts.0) refl in
    omega (arith, here, none-of-set dsn rows parts.1)

-- where one is
some-of-set-at : (row : StatusRow) (rows : List StatusRow) (t : Target) → row.target ≡ t → (no_sets rows ≡ false → ((dsn : List ℕ) → times_status (targets.Set dsn) rows ≡ 0) → ⊥) → no_sets (row ∷ rows) ≡ false
    → ((dsn : List ℕ) → times_status (targets.Set dsn) (row ∷ rows) ≡ 0) → ⊥
some-of-set-at row rows (targets.Group n) at rest is none = rest (rw at at is) (λ dsn. let all = none dsn in omega (arith, all))
some-of-set-at row rows (targets.Volume n) at rest is none = rest (rw at at is) (λ dsn. let all = none dsn in omega (arith, all))
some-of-set-at row rows (targets.Set n) at rest is none =
    let here : cond (same_target row.target (targets.Set n)) 1 zero ≡ suc zero = rw (at, bytes-self n) refl in
    let all = none n in
    omega (arith, here, all)

pub some-of-set : (rows : List StatusRow) → no_sets rows ≡ false → ((dsn : List ℕ) → times_status (targets.Set dsn) rows ≡ 0) → ⊥
some-of-set [] is none = absurd cc
some-of-set (row ∷ rows) is none = some-of-set-at row rows row.target refl (some-of-set rows) is none

all-targets : (config : Configuration) (rows : List StatusRow) → no_sets rows ≡ true → ((name : List ℕ) → times_status (targets.Group name) rows ≡ times_group name config.groups)
    → ((volser : List ℕ) → times_status (targets.Volume volser) rows ≡ times_volume volser config.volumes) → (target : Target) → times_status target rows ≡ times_target (Some config) target
all-targets config rows none groups volumes (targets.Group name) = groups name
all-targets config rows none groups volumes (targets.Volume volser) = volumes volser
all-targets config rows none groups volumes (targets.Set dsn) = none-of-set dsn rows none

-- the last of the tests of the statuses tells of all
pub targets-told : {E : Type 0} (r : Result Bool E) (config : Configuration) (rows : List StatusRow) → no_sets rows ≡ true → ((name : List ℕ) → times_status (targets.Group name) rows ≡ times_group name config.groups)
    → IfOk r (Tells ((volser : List ℕ) → times_status (targets.Volume volser) rows ≡ times_volume volser config.volumes)) → IfOk r (Tells ((target : Target) → times_status target rows ≡ times_target (Some config) target))
targets-told r config rows none groups told = told-alike _ _ r (λ volumes. all-targets config rows none groups volumes) (λ each volser. each (targets.Volume volser)) told

pub statuses-told : {E : Type 0} (r : Result Bool E) (active : Option Configuration) (rows : List StatusRow) → AllByRecursion (λ row. may_have row.target row.status ≡ true) rows
    → IfOk r (Tells ((target : Target) → times_status target rows ≡ times_target active target)) → IfOk r (Tells (AreStatusesOf active rows))
statuses-told r active rows connected told = told-alike _ _ r (λ each. record { each = each; connected = connected }) (λ are. are.each) told

-- without a configuration there is none

pub no-target : (target : Target) → times_target None target ≡ 0
no-target (targets.Group name) = refl
no-target (targets.Volume volser) = refl
no-target (targets.Set dsn) = refl

pub bare-told : (rows : List StatusRow) (b : Bool) → AllByRecursion (λ row. may_have row.target row.status ≡ true) rows → b ≡ (length rows == 0) → Tells (AreStatusesOf None rows) b
bare-told [] true connected is = record { each = λ target. sym (no-target target); connected = connected }
bare-told [] false connected is = let yes : (0 == 0) ≡ true = (Decides-eqb 0 0).1 refl in absurd cc
bare-told (row ∷ rows) true connected is = let bad : suc (length rows) ≡ 0 = (Decides-eqb (suc (length rows)) 0).0 (sym is) in absurd (omega (arith, bad))
bare-told (row ∷ rows) false connected is = λ are.
    let here : cond (same_target row.target row.target) 1 zero ≡ suc zero = rw (own-target row.target) refl in
    let none = are.each row.target in
    omega (arith, here, none, no-target row.target)
