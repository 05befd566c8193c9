-- A data set in place of another.
use Rattle.std.proofs.Common.{◌≡◌, ◌≤◌, ℕ, ◌+◌, Bool, true, false, List, [], ◌∷◌, ◌++◌, refl, sym, ap, ◌∙◌, subst}
use Rattle.std.proofs.Common.{arith}
use Rattle.std.specs.Prelude.{Some, bytes_eq}
use Rattle.std.specs.List.{AllByRecursion}
use Rattle.sms_construct.specs.declared.data_set.DataSet.{DataSet}
use Rattle.sms_construct.specs.declared.extent.Extent.{Extent}
use Rattle.sms_keeper.specs.Tables.{without_set}
use Rattle.track_ledger.specs.Gaps.{times_held}
use Rattle.desk_law.specs.State.{DeskState, set_named, with_set, without_name}
use Rattle.desk_law.specs.Extents.{extents_if, extents_named, held_on, with_extents}
use Rattle.desk_law.specs.Volumes.{volumes_in}
use Rattle.desk_law.specs.Lawful.{IsLawful, IsLawfulSet}
use Rattle.desk_law.proofs.ByteLemmas.{same-bytes}
use Rattle.desk_law.proofs.CountLemmas.{times_on, times-put, times-without, names-put, names-without}

all-without-at : (P : DataSet → Type 0) (dsn : List ℕ) (set : DataSet) (sets : List DataSet) (b : Bool) → bytes_eq set.dsn dsn ≡ b → P set → AllByRecursion P (without_set dsn sets)
    → AllByRecursion P (without_set dsn (set ∷ sets))
all-without-at P dsn set sets true is here rest = rw is rest
all-without-at P dsn set sets false is here rest = rw is (here, rest)

pub each-without : (P : DataSet → Type 0) (dsn : List ℕ) (sets : List DataSet) → AllByRecursion P sets → AllByRecursion P (without_set dsn sets)
each-without P dsn [] all = tt
each-without P dsn (set ∷ sets) all = all-without-at P dsn set sets _ refl all.0 (each-without P dsn sets all.1)

pub each-push : {X : Type 0} (P : X → Type 0) (xs : List X) (x : X) → AllByRecursion P xs → P x → AllByRecursion P (xs ++ x ∷ [])
each-push P [] x all here = (here, tt)
each-push P (y ∷ xs) x all here = (all.0, each-push P xs x all.1 here)

pub each-append : {X : Type 0} (P : X → Type 0) (xs ys : List X) → AllByRecursion P xs → AllByRecursion P ys → AllByRecursion P (xs ++ ys)
each-append P [] ys all more = more
each-append P (x ∷ xs) ys all more = (all.0, each-append P xs ys all.1 more)

each-named-at : (P : DataSet → Type 0) (dsn : List ℕ) (set : DataSet) (sets : List DataSet) (old : DataSet) (b : Bool) → bytes_eq set.dsn dsn ≡ b → P set
    → (set_named dsn sets ≡ Some old → P old) → set_named dsn (set ∷ sets) ≡ Some old → P old
each-named-at P dsn set sets old true is here rest found =
    let now : Some set ≡ Some old = rw is at found in
    let same : set ≡ old = cc in subst P same here
each-named-at P dsn set sets old false is here rest found =
    let now : set_named dsn sets ≡ Some old = rw is at found in rest now

pub each-named : (P : DataSet → Type 0) (dsn : List ℕ) (sets : List DataSet) (old : DataSet) → AllByRecursion P sets → set_named dsn sets ≡ Some old → P old
each-named P dsn [] old all found = absurd cc
each-named P dsn (set ∷ sets) old all found = each-named-at P dsn set sets old _ refl all.0 (λ e. each-named P dsn sets old all.1 e) found

name-is-at : (dsn : List ℕ) (set : DataSet) (sets : List DataSet) (old : DataSet) (b : Bool) → bytes_eq set.dsn dsn ≡ b
    → (set_named dsn sets ≡ Some old → old.dsn ≡ dsn) → set_named dsn (set ∷ sets) ≡ Some old → old.dsn ≡ dsn
name-is-at dsn set sets old true is rest found =
    let now : Some set ≡ Some old = rw is at found in
    let same : set ≡ old = cc in
    ap (λ (d : DataSet). d.dsn) (sym same) ∙ same-bytes set.dsn dsn is
name-is-at dsn set sets old false is rest found =
    let now : set_named dsn sets ≡ Some old = rw is at found in rest now

pub name-is : (dsn : List ℕ) (sets : List DataSet) (old : DataSet) → set_named dsn sets ≡ Some old → old.dsn ≡ dsn
name-is dsn [] old found = absurd cc
name-is dsn (set ∷ sets) old found = name-is-at dsn set sets old _ refl (name-is dsn sets old) found

-- the extents of a data set that is found
pub found-extents : (dsn : List ℕ) (sets : List DataSet) (old : DataSet) → set_named dsn sets ≡ Some old → extents_named old.dsn sets ≡ old.extents
found-extents dsn sets old found = ap extents_if (subst (λ n. set_named n sets ≡ Some old) (sym (name-is dsn sets old found)) found)

-- a lawful data set with tracks that were its own or nobody's
pub lawful-put : (s : DeskState) (set : DataSet) → IsLawful s → IsLawfulSet (volumes_in s.active) set
    → ((v : List ℕ) (t : ℕ) → times_held (held_on s v) t + times_on v set.extents t ≤ 1 + times_on v (extents_named set.dsn s.sets) t) → IsLawful (with_set s set)
lawful-put s set lawful here once = record {
  sets = each-push (IsLawfulSet (volumes_in s.active)) (without_set set.dsn s.sets) set (each-without (IsLawfulSet (volumes_in s.active)) set.dsn s.sets lawful.sets) here;
  once = λ v t. omega (arith, once v t, times-put v set s.sets t (lawful.names set.dsn));
  names = λ n. names-put n set s.sets (lawful.names n);
  statuses = lawful.statuses;
  connected = lawful.connected;
  config = lawful.config;
}

-- a catalogued data set with other extents
pub lawful-changed : (s : DeskState) (dsn : List ℕ) (old : DataSet) (used : ℕ) (es : List Extent) → IsLawful s → set_named dsn s.sets ≡ Some old → IsLawfulSet (volumes_in s.active) (with_extents old used es)
    → ((v : List ℕ) (t : ℕ) → times_held (held_on s v) t + times_on v es t ≤ 1 + times_on v old.extents t) → IsLawful (with_set s (with_extents old used es))
lawful-changed s dsn old used es lawful found here once = lawful-put s (with_extents old used es) lawful here (λ v t.
    let same : times_on v (extents_named old.dsn s.sets) t ≡ times_on v old.extents t = ap (λ (l : List Extent). times_on v l t) (found-extents dsn s.sets old found) in
    omega (arith, same, once v t))

-- without the data set
pub lawful-without : (s : DeskState) (dsn : List ℕ) → IsLawful s → IsLawful (without_name s dsn)
lawful-without s dsn lawful = record {
  sets = each-without (IsLawfulSet (volumes_in s.active)) dsn s.sets lawful.sets;
  once = λ v t. omega (arith, times-without v dsn s.sets t (lawful.names dsn), lawful.once v t);
  names = λ n. omega (arith, names-without n dsn s.sets, lawful.names n);
  statuses = lawful.statuses;
  connected = lawful.connected;
  config = lawful.config;
}
