-- The front of extents, part by part.
use Rattle.std.proofs.Common.{◌≡◌, ◌≤◌, ◌<◌, ℕ, zero, suc, ◌+◌, List, [], ◌∷◌, ◌++◌, length, get_or, take, drop, refl}
use Rattle.std.proofs.Common.{sym, ap, ◌∙◌, subst, arith, append_assoc}
use Rattle.std.specs.Prelude.{None, Option, Some, IfSome, is_some, nat_lt, slice_get}
use Rattle.std.specs.Borrow.{Bor}
use Rattle.std.specs.Option.{option_copied}
use Rattle.std.specs.List.{AllByRecursion, AllZip}
use Rattle.std.proofs.lemmas.Bool.Decides.{nat_tests}
use Rattle.std.proofs.lemmas.List.{append-nil, drop_all, take_all}
use Rattle.std.proofs.lemmas.Option.{slice_get_past}
use Rattle.sms_construct.specs.declared.extent.Extent.{Extent}
use Rattle.sms_volumes.specs.Changing.{HasChanged, HoldsAll, IsFront, IsPartOf, extent_if}
use Rattle.sms_volumes.specs.declared.active_volume.ActiveVolume.{ActiveVolume}
use Rattle.sms_volumes.proofs.ChangeLemmas.{all-changed, all-hold, all-within}
use Rattle.sms_volumes.proofs.RunningLemmas.{there-is}

part-same : (kept extent : Extent) → kept ≡ extent → IsPartOf kept extent
part-same kept extent same = record {
  volser = ap (λ (e : Extent). e.volser) same;
  start = ap (λ (e : Extent). e.start) same;
  some = (let length : kept.length ≡ extent.length = ap (λ (e : Extent). e.length) same in λ less. absurd (omega (arith, less, length)));
  less = (let length : kept.length ≡ extent.length = ap (λ (e : Extent). e.length) same in omega (arith, length));
}

-- what is kept of the extent at a place is a part of it
pub front-at : (kept extents : List Extent) (place : ℕ) (e : Extent) → IsFront kept extents → place < length extents → e ≡ get_or extents place e → IfSome (slice_get kept place) (λ part. IsPartOf part e)
front-at [] extents place e front lt read = tt
front-at (k ∷ kept) [] place e front lt read = absurd (omega (arith, lt))
front-at (k ∷ []) (x ∷ extents) zero e front lt read =
    let part : IsPartOf k x = record { volser = front.volser; start = front.start; some = λ less. front.some; less = front.less } in
    subst (IsPartOf k) (sym read) part
front-at (k ∷ []) (x ∷ extents) (suc place) e front lt read = tt
front-at (k ∷ next ∷ kept) (x ∷ extents) zero e front lt read = subst (IsPartOf k) (sym read) (part-same k x front.0)
front-at (k ∷ next ∷ kept) (x ∷ extents) (suc place) e front lt read = front-at (next ∷ kept) extents place e front.1 (omega (arith, lt)) read

-- there are no more of them
pub front-long : (kept extents : List Extent) → IsFront kept extents → length kept ≤ length extents
front-long [] extents front = omega arith
front-long (k ∷ kept) [] front = absurd front
front-long (k ∷ []) (x ∷ extents) front = omega arith
front-long (k ∷ next ∷ kept) (x ∷ extents) front =
    let rest = front-long (next ∷ kept) extents front.1 in omega (arith, rest)

-- what the slice gives at a place
pub looked-up : (kept : List Extent) (place : ℕ) (found : Option (Bor Extent)) → is_some found ≡ nat_lt place (length kept) → IfSome found (λ x. x.now ≡ get_or kept place x.now)
    → slice_get kept place ≡ option_copied found
looked-up kept place None there same =
    let past : length kept ≤ place = grind (arith, nat_tests) in slice_get_past kept place past
looked-up kept place (Some x) there same =
    let lt : place < length kept = grind (arith, nat_tests) in there-is kept place x.now lt same

-- what is left behind the first so many
abbrev pub kept_so_far : ℕ → List Extent → List Extent → List Extent
kept_so_far place kept extents = take place kept ++ drop place extents

so-far-now : (place : ℕ) (kept extents : List Extent) (e : Extent) → place < length extents → e ≡ get_or extents place e
    → kept_so_far place kept extents ≡ take place kept ++ ((e ∷ []) ++ drop (suc place) extents)
so-far-now place kept extents e lt read = ap (λ (l : List Extent). take place kept ++ l) (opened place extents e lt read)
  where
    opened : (i : ℕ) (xs : List Extent) (e : Extent) → i < length xs → e ≡ get_or xs i e → drop i xs ≡ e ∷ drop (suc i) xs
    opened i [] e lt read = absurd (omega (arith, lt))
    opened zero (x ∷ []) e lt read = ap (λ (y : Extent). y ∷ []) (sym read)
    opened zero (x ∷ (y ∷ xs)) e lt read = ap (λ (z : Extent). z ∷ (y ∷ xs)) (sym read)
    opened (suc i) (x ∷ xs) e lt read = opened i xs e (omega (arith, lt)) read

taken-one : (kept : List Extent) (place : ℕ) → take (suc place) kept ≡ take place kept ++ extent_if (slice_get kept place)
taken-one [] zero = refl
taken-one [] (suc place) = refl
taken-one (k ∷ []) zero = refl
taken-one (k ∷ (next ∷ kept)) zero = refl
taken-one (k ∷ kept) (suc place) = ap (λ (l : List Extent). k ∷ l) (taken-one kept place)

so-far-next : (place : ℕ) (kept extents : List Extent) → kept_so_far (suc place) kept extents ≡ take place kept ++ (extent_if (slice_get kept place) ++ drop (suc place) extents)
so-far-next place kept extents =
    ap (λ (l : List Extent). l ++ drop (suc place) extents) (taken-one kept place) ∙ append_assoc (take place kept) (extent_if (slice_get kept place)) (drop (suc place) extents)

-- the volumes hold the extent at the place
pub hold-one : (place : ℕ) (kept extents : List Extent) (e : Extent) (volumes : List ActiveVolume) → place < length extents → e ≡ get_or extents place e
    → AllByRecursion (HoldsAll (kept_so_far place kept extents)) volumes → AllByRecursion (HoldsAll (e ∷ [])) volumes
hold-one place kept extents e volumes lt read all =
    all-hold (take place kept) (e ∷ []) (drop (suc place) extents) volumes (subst (λ (l : List Extent). AllByRecursion (HoldsAll l) volumes) (so-far-now place kept extents e lt read) all)

-- one extent more was gone over
pub kept-next : (place : ℕ) (kept extents : List Extent) (e : Extent) (xs ys zs : List ActiveVolume) → place < length extents → e ≡ get_or extents place e
    → AllZip (HasChanged extents (kept_so_far place kept extents)) xs ys → AllZip (HasChanged (e ∷ []) (extent_if (slice_get kept place))) ys zs
    → AllZip (HasChanged extents (kept_so_far (place + 1) kept extents)) xs zs
kept-next place kept extents e xs ys zs lt read before step =
    let front = take place kept in
    let behind = drop (suc place) extents in
    let next : place + 1 ≡ suc place = omega arith in
    let now = subst (λ (l : List Extent). AllZip (HasChanged extents l) xs ys) (so-far-now place kept extents e lt read) before in
    subst (λ (l : List Extent). AllZip (HasChanged extents l) xs zs) (sym (ap (λ (n : ℕ). kept_so_far n kept extents) next ∙ so-far-next place kept extents))
    (all-changed extents (front ++ ((e ∷ []) ++ behind)) (front ++ (extent_if (slice_get kept place) ++ behind)) xs ys zs now
    (all-within front (e ∷ []) (extent_if (slice_get kept place)) behind ys zs step))

-- all were
pub kept-all : (place : ℕ) (kept extents : List Extent) → IsFront kept extents → length extents ≤ place → kept_so_far place kept extents ≡ kept
kept-all place kept extents front le =
    let long = front-long kept extents front in
    ap (λ (l : List Extent). l ++ drop place extents) (take_all place kept (omega (arith, long, le))) ∙ (ap (λ (l : List Extent). kept ++ l) (drop_all place extents le) ∙ append-nil kept)
