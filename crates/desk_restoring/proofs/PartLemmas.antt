-- A part of a lawful state is lawful.
use Rattle.std.proofs.Common.{◌≡◌, ◌≤◌, ◌<◌, ℕ, zero, suc, ◌+◌, cond, List, [], ◌∷◌, ◌++◌, length, append-nil, refl, ap}
use Rattle.std.proofs.Common.{◌∙◌, subst, arith}
use Rattle.std.specs.Prelude.{bytes_eq}
use Rattle.std.specs.List.{AllByRecursion}
use Rattle.sms_construct.specs.declared.data_set.DataSet.{DataSet}
use Rattle.sms_construct.specs.declared.extent.Extent.{Extent}
use Rattle.sms_construct.specs.declared.volume.VolumeDef.{VolumeDef}
use Rattle.track_ledger.specs.Gaps.{times_held}
use Rattle.desk_law.specs.State.{DeskState}
use Rattle.desk_law.specs.Extents.{extents_of, held_on, pieces_on}
use Rattle.desk_law.specs.Lawful.{IsInside, IsLawful, IsLawfulSet, LiesInPart, times_named}
use Rattle.desk_law.specs.Volumes.{volumes_in}
use Rattle.desk_law.proofs.ByteLemmas.{bytes-self}
use Rattle.desk_law.proofs.CountLemmas.{all-append, count-append, names-push, once_of, times-append, times-is, times_on}
use Rattle.desk_law.proofs.SetLemmas.{each-push}
use Rattle.desk_restoring.specs.Inner.Placing.{placed, sets_placed}
use Rattle.desk_restoring.specs.Inner.Replaying.{with_sets}
use Rattle.desk_restoring.proofs.ListLemmas.{each-front, each-rest}

-- How often a track is held.

times-both : (v : List ℕ) (a b : List DataSet) (t : ℕ) → times_on v (extents_of (a ++ b)) t ≡ times_on v (extents_of a) t + times_on v (extents_of b) t
times-both v a b t =
    omega (arith, times-is (pieces_on v (extents_of (a ++ b))) t, times-is (pieces_on v (extents_of a)) t, times-is (pieces_on v (extents_of b)) t, all-append (once_of t) v a b)

times-one : (v : List ℕ) (set : DataSet) (t : ℕ) → times_on v (extents_of (set ∷ [])) t ≡ times_on v set.extents t
times-one v set t = ap (λ (l : List Extent). times_on v l t) (append-nil set.extents)

-- by the last data set and those before it
pub times-last : (v : List ℕ) (sets front : List DataSet) (set : DataSet) (t : ℕ) → sets ≡ front ++ set ∷ [] → times_on v (extents_of sets) t ≡ times_on v (extents_of front) t + times_on v set.extents t
times-last v sets front set t is =
    ap (λ (l : List DataSet). times_on v (extents_of l) t) is ∙ (times-both v front (set ∷ []) t ∙ ap (λ (n : ℕ). times_on v (extents_of front) t + n) (times-one v set t))

-- where the last one has these extents so far
pub times-placed : (v : List ℕ) (front : List DataSet) (set : DataSet) (done : List Extent) (t : ℕ) → times_on v (extents_of (sets_placed front set done)) t ≡ times_on v (extents_of front) t + times_on v done t
times-placed v front set [] t = omega arith
times-placed v front set (e ∷ es) t = times-last v (front ++ placed set (e ∷ es) ∷ []) front (placed set (e ∷ es)) t refl

pub times-split : (v : List ℕ) (extents done more : List Extent) (t : ℕ) → extents ≡ done ++ more → times_on v extents t ≡ times_on v done t + times_on v more t
times-split v extents done more t parts = ap (λ (l : List Extent). times_on v l t) parts ∙ times-append v done more t

-- Names.

names-both : (n : List ℕ) (a b : List DataSet) → times_named n (a ++ b) ≡ times_named n a + times_named n b
names-both n [] b = omega arith
names-both n (set ∷ a) b = omega (arith, names-both n a b)

-- no data set before the last has its name
pub front-unnamed : (s : DeskState) (front : List DataSet) (set : DataSet) → IsLawful s → s.sets ≡ front ++ set ∷ [] → times_named set.dsn front ≡ 0
front-unnamed s front set lawful is =
    let one : cond (bytes_eq set.dsn set.dsn) 1 zero ≡ suc zero = rw (bytes-self set.dsn) refl in
    let same : times_named set.dsn s.sets ≡ times_named set.dsn (front ++ set ∷ []) = ap (times_named set.dsn) is in
    omega (arith, lawful.names set.dsn, same, names-push set.dsn front set, one)

-- Lawful states.

lawful-part : (s : DeskState) (sets : List DataSet) → IsLawful s → AllByRecursion (IsLawfulSet (volumes_in s.active)) sets
    → ((v : List ℕ) (t : ℕ) → times_held (held_on (with_sets s sets) v) t ≤ times_held (held_on s v) t) → ((n : List ℕ) → times_named n sets ≤ times_named n s.sets) → IsLawful (with_sets s sets)
lawful-part s sets lawful each held names = record {
  sets = each;
  once = λ v t. omega (arith, held v t, lawful.once v t);
  names = λ n. omega (arith, names n, lawful.names n);
  statuses = lawful.statuses;
  connected = lawful.connected;
  config = lawful.config;
}

-- the first data sets alone
pub lawful-front : (s : DeskState) (front rest : List DataSet) → IsLawful s → s.sets ≡ front ++ rest → IsLawful (with_sets s front)
lawful-front s front rest lawful is =
    let P : DataSet → Type 0 = IsLawfulSet (volumes_in s.active) in
    lawful-part s front lawful (each-front P front rest (subst (AllByRecursion P) is lawful.sets))
    (λ v t.
    let same : times_on v (extents_of s.sets) t ≡ times_on v (extents_of (front ++ rest)) t = ap (λ (l : List DataSet). times_on v (extents_of l) t) is in
    omega (arith, same, times-both v front rest t))
    (λ n.
    let same : times_named n s.sets ≡ times_named n (front ++ rest) = ap (times_named n) is in
    omega (arith, same, names-both n front rest))

placed-lawful : (volumes : List VolumeDef) (set : DataSet) (done more : List Extent) → IsLawfulSet volumes set → set.extents ≡ done ++ more → 0 < length done → IsLawfulSet volumes (placed set done)
placed-lawful volumes set done more whole parts some = record {
  some = some;
  inside = each-front (IsInside volumes) done more (subst (AllByRecursion (IsInside volumes)) parts whole.inside);
  parted = each-front LiesInPart done more (subst (AllByRecursion LiesInPart) parts whole.parted);
  few = λ v.
      let same : length (pieces_on v set.extents) ≡ length (pieces_on v (done ++ more)) = ap (λ (l : List Extent). length (pieces_on v l)) parts in
      omega (arith, same, whole.few v, count-append v done more);
  whole = whole.whole;
}

-- the last data set
pub last-lawful : (s : DeskState) (front : List DataSet) (set : DataSet) → IsLawful s → s.sets ≡ front ++ set ∷ [] → IsLawfulSet (volumes_in s.active) set
last-lawful s front set lawful is =
    let P : DataSet → Type 0 = IsLawfulSet (volumes_in s.active) in
    (each-rest P front (set ∷ []) (subst (AllByRecursion P) is lawful.sets)).0

-- the last data set has its first extents alone
pub lawful-placed : (s : DeskState) (front : List DataSet) (set : DataSet) (done more : List Extent) → IsLawful s → s.sets ≡ front ++ set ∷ [] → set.extents ≡ done ++ more
    → IsLawful (with_sets s (sets_placed front set done))
lawful-placed s front set [] more lawful is parts = lawful-front s front (set ∷ []) lawful is
lawful-placed s front set (e ∷ es) more lawful is parts =
    let P : DataSet → Type 0 = IsLawfulSet (volumes_in s.active) in
    let x : DataSet = placed set (e ∷ es) in
    let part : P x = placed-lawful (volumes_in s.active) set (e ∷ es) more (last-lawful s front set lawful is) parts (omega arith) in
    lawful-part s (front ++ x ∷ []) lawful (each-push P front x (each-front P front (set ∷ []) (subst (AllByRecursion P) is lawful.sets)) part)
    (λ v t. omega (arith, times-last v s.sets front set t is, times-placed v front set (e ∷ es) t, times-split v set.extents (e ∷ es) more t parts))
    (λ n.
    let same : times_named n s.sets ≡ times_named n (front ++ set ∷ []) = ap (times_named n) is in
    omega (arith, same, names-push n front x, names-push n front set))
