-- What a grant does to the data sets.
use Rattle.std.proofs.Common.{◌≡◌, ◌≤◌, ◌<◌, ℕ, zero, suc, ◌+◌, Bool, true, false, cond, List, [], ◌∷◌, ◌++◌, length}
use Rattle.std.proofs.Common.{refl, sym, ap, ◌∙◌, subst, arith, length-append, inl, inr}
use Rattle.std.specs.Prelude.{◌⊎◌, Option, None, Some, IfSome, find, bytes_eq}
use Rattle.std.specs.List.{All, AllByRecursion, sum_by}
use Rattle.std.proofs.lemmas.List.Elements.{All-head, All-tail}
use Rattle.sms_construct.specs.Configuration.{Configuration, IsConfiguration}
use Rattle.desk_common.specs.Limits.{border}
use Rattle.sms_construct.specs.Quantities.{most_breakpoint, rounded_up, tracks_in, tracks_in_managed}
use Rattle.sms_construct.specs.declared.data_set.DataSet.{DataSet}
use Rattle.sms_construct.specs.declared.extent.Extent.{Extent}
use Rattle.sms_construct.specs.declared.storage_group.StorGroup.{StorGroup}
use Rattle.sms_construct.specs.declared.volume.VolumeDef.{VolumeDef}
use Rattle.track_ledger.specs.declared.piece.Piece.{Piece}
use Rattle.track_ledger.specs.Extents.{LiesInside}
use Rattle.track_ledger.specs.GapRule.{pieces_allowed}
use Rattle.track_ledger.specs.Gaps.{times_held}
use Rattle.track_ledger.specs.Grants.{IsAsked, IsGrant}
use Rattle.track_ledger.specs.Need.{IsNeed}
use Rattle.track_ledger.specs.Parts.{IsPlaced}
use Rattle.track_ledger.proofs.BesideLemmas.{beside-is}
use Rattle.desk_law.specs.State.{DeskState, set_named, with_set}
use Rattle.desk_law.specs.Extents.{extents_at, held_on, is_used}
use Rattle.desk_law.specs.Volumes.{groups_in, times_volume, tracks_of, volumes_in}
use Rattle.desk_law.specs.Candidates.{Ask, IsSoundAsk, breakpoint_of, grant_on, need_on}
use Rattle.desk_law.specs.Extension.{extended, last_volume}
use Rattle.desk_law.specs.Lawful.{IsInside, IsLawful, IsLawfulSet, IsWhole, LiesInPart}
use Rattle.desk_law.proofs.ByteLemmas.{bytes-same, bytes-self, bytes-turned, same-bytes}
use Rattle.desk_law.proofs.PlaceLemmas.{each-both, find-each}
use Rattle.desk_law.proofs.CountLemmas.{times_on, count_on, times-append, count-append, pieces-at, pieces-off}
use Rattle.desk_law.proofs.FrontLemmas.{rounded-some}
use Rattle.desk_law.proofs.SetLemmas.{each-append, each-named, lawful-changed, lawful-put}

breakpoint-small : (active : Option Configuration) (name : List ℕ) → IfSome active IsConfiguration → breakpoint_of (find (λ (group : StorGroup). bytes_eq group.name name) (groups_in active)) ≤ most_breakpoint
breakpoint-small None name is = omega arith
breakpoint-small (Some config) name is = found-small (find (λ (group : StorGroup). bytes_eq group.name name) config.groups) refl
  where
    found-small : (o : Option StorGroup) → find (λ (group : StorGroup). bytes_eq group.name name) config.groups ≡ o → breakpoint_of o ≤ most_breakpoint
    found-small None found = omega arith
    found-small (Some group) found = find-each (λ (g : StorGroup). g.breakpoint ≤ most_breakpoint) (λ (g : StorGroup). bytes_eq g.name name) config.groups group is.breakpoints found

-- what a data set may get of a volume on which it has so many extents
pub record IsGiven (s : DeskState) (w : List ℕ) (held : ℕ) (pieces : List Piece) : Type 0 where
  pub some : 0 < length (extents_at w pieces)
  pub inside : AllByRecursion (IsInside (volumes_in s.active)) (extents_at w pieces)
  pub parted : AllByRecursion LiesInPart (extents_at w pieces)
  pub few : length pieces ≤ pieces_allowed held
  pub once : (t : ℕ) → times_held (held_on s w) t + times_held pieces t ≤ 1

inside-at : (volumes : List VolumeDef) (w : List ℕ) (tracks : ℕ) (pieces : List Piece) → tracks_of w volumes ≡ tracks → All (LiesInside tracks) pieces → AllByRecursion (IsInside volumes) (extents_at w pieces)
inside-at volumes w tracks [] is all = tt
inside-at volumes w tracks (p ∷ pieces) is all =
    (subst (λ n. LiesInside n p) (sym is) (All-head (LiesInside tracks) p pieces all), inside-at volumes w tracks pieces is (All-tail (LiesInside tracks) p pieces all))

some-at : (w : List ℕ) (tracks : ℕ) (pieces : List Piece) → 0 < tracks → sum_by (λ (p : Piece). p.length) pieces ≡ tracks → 0 < length (extents_at w pieces)
some-at w tracks [] some sum = absurd (omega (arith, some, sum))
some-at w tracks (p ∷ pieces) some sum = omega arith

low-parted : (w : List ℕ) (multiple : ℕ) (pieces : List Piece) → All (IsPlaced 0 border multiple) pieces → AllByRecursion LiesInPart (extents_at w pieces)
low-parted w multiple [] all = tt
low-parted w multiple (p ∷ pieces) all =
    let here = All-head (IsPlaced 0 border multiple) p pieces all in
    (inl here.before, low-parted w multiple pieces (All-tail (IsPlaced 0 border multiple) p pieces all))

high-parted : (w : List ℕ) (end : ℕ) (pieces : List Piece) → All (IsPlaced border end tracks_in_managed) pieces → AllByRecursion LiesInPart (extents_at w pieces)
high-parted w end [] all = tt
high-parted w end (p ∷ pieces) all =
    let here = All-head (IsPlaced border end tracks_in_managed) p pieces all in
    (inr (record { behind = here.behind; start = here.start; length = here.length }), high-parted w end pieces (All-tail (IsPlaced border end tracks_in_managed) p pieces all))

-- what a volume grants in a lawful state
pub grant-given : (s : DeskState) (volume : VolumeDef) (ask : Ask) (held : ℕ) (pieces : List Piece) → IsLawful s → IsSoundAsk ask → held ≤ 16 → tracks_of volume.volser (volumes_in s.active) ≡ volume.tracks
    → grant_on s volume ask held ≡ Some pieces → IsGiven s volume.volser held pieces
grant-given s volume ask held pieces lawful sound most is found = given grant.asked
  where
    need : IsNeed (need_on s volume ask held)
    need = record { some = sound.some; whole = sound.whole; few = most; breakpoint = breakpoint-small s.active volume.group lawful.config }

    grant : IsGrant volume.tracks (held_on s volume.volser) (need_on s volume ask held) pieces
    grant = beside-is volume.tracks (need_on s volume ask held) (held_on s volume.volser) pieces need (lawful.once volume.volser) found

    of_parts : 0 < length (extents_at volume.volser pieces) → AllByRecursion LiesInPart (extents_at volume.volser pieces) → IsGiven s volume.volser held pieces
    of_parts some parted = record { some = some; inside = inside-at (volumes_in s.active) volume.volser volume.tracks pieces is grant.inside; parted = parted; few = grant.few; once = grant.once }

    given : IsAsked 0 border (tracks_in ask.unit) ask.tracks pieces ⊎ IsAsked border volume.tracks tracks_in_managed (rounded_up tracks_in_managed ask.tracks) pieces → IsGiven s volume.volser held pieces
    given (inl low) = of_parts (some-at volume.volser _ pieces sound.some low.sum) (low-parted volume.volser (tracks_in ask.unit) pieces low.placed)
    given (inr high) = of_parts (some-at volume.volser _ pieces (rounded-some tracks_in_managed ask.tracks (omega arith) sound.some) high.sum) (high-parted volume.volser volume.tracks pieces high.placed)

-- no track is held twice then
given-once : (s : DeskState) (w v : List ℕ) (held t : ℕ) (pieces : List Piece) (b : Bool) → bytes_eq w v ≡ b → IsLawful s → IsGiven s w held pieces → times_held (held_on s v) t + times_on v (extents_at w pieces) t ≤ 1
given-once s w v held t pieces true is lawful given =
    let there : times_held (held_on s w) t ≡ times_held (held_on s v) t = ap (λ n. times_held (held_on s n) t) (same-bytes w v is) in
    let here : times_on v (extents_at w pieces) t ≡ times_held pieces t = ap (λ (l : List Piece). times_held l t) (pieces-at w v pieces is) in
    omega (arith, given.once t, there, here)
given-once s w v held t pieces false is lawful given =
    let none : times_on v (extents_at w pieces) t ≡ 0 = ap (λ (l : List Piece). times_held l t) (pieces-off w v pieces is) in
    omega (arith, lawful.once v t, none)

-- nor are there more extents on a volume than may be
given-few : (w v : List ℕ) (held : ℕ) (es : List Extent) (pieces : List Piece) (b : Bool) → bytes_eq w v ≡ b → count_on v es ≤ 16 → count_on w es ≡ held → length pieces ≤ pieces_allowed held
    → count_on v (es ++ extents_at w pieces) ≤ 16
given-few w v held es pieces true is before here few =
    let there : count_on w es ≡ count_on v es = ap (λ n. count_on n es) (same-bytes w v is) in
    let new : count_on v (extents_at w pieces) ≡ length pieces = ap length (pieces-at w v pieces is) in
    omega (arith, count-append v es (extents_at w pieces), new, before, here, there, few)
given-few w v held es pieces false is before here few =
    let none : count_on v (extents_at w pieces) ≡ 0 = ap length (pieces-off w v pieces is) in
    omega (arith, count-append v es (extents_at w pieces), none, before)

-- a new data set with what a volume grants
pub lawful-new : (s : DeskState) (set : DataSet) (w : List ℕ) (pieces : List Piece) → IsLawful s → set.extents ≡ extents_at w pieces → IsWhole set → IsGiven s w 0 pieces → IsLawful (with_set s set)
lawful-new s set w pieces lawful at whole given =
    lawful-put s set lawful
    (record {
      some = subst (λ (es : List Extent). 0 < length es) (sym at) given.some;
      inside = subst (AllByRecursion (IsInside (volumes_in s.active))) (sym at) given.inside;
      parted = subst (AllByRecursion LiesInPart) (sym at) given.parted;
      few = λ v. subst (λ (es : List Extent). count_on v es ≤ 16) (sym at) (given-few w v 0 [] pieces _ refl (omega arith) refl given.few);
      whole = whole;
    })
    (λ v t.
    let once = given-once s w v 0 t pieces _ refl lawful given in
    let same : times_on v set.extents t ≡ times_on v (extents_at w pieces) t = ap (λ (es : List Extent). times_on v es t) at in
    omega (arith, once, same))

-- a data set with what a volume grants it besides
pub lawful-extended : (s : DeskState) (dsn w : List ℕ) (held : ℕ) (set : DataSet) (pieces : List Piece) → IsLawful s → set_named dsn s.sets ≡ Some set → count_on w set.extents ≡ held → IsGiven s w held pieces
    → IsLawful (with_set s (extended set (extents_at w pieces)))
lawful-extended s dsn w held set pieces lawful found here given =
    let old = each-named (IsLawfulSet (volumes_in s.active)) dsn s.sets set lawful.sets found in
    let some = old.some in
    lawful-changed s dsn set set.used (set.extents ++ extents_at w pieces) lawful found
    (record {
      some = omega (arith, some, length-append set.extents (extents_at w pieces));
      inside = each-append (IsInside (volumes_in s.active)) set.extents (extents_at w pieces) old.inside given.inside;
      parted = each-append LiesInPart set.extents (extents_at w pieces) old.parted given.parted;
      few = λ v. given-few w v held set.extents pieces _ refl (old.few v) here given.few;
      whole = old.whole;
    })
    (λ v t. omega (arith, given-once s w v held t pieces _ refl lawful given, times-append v set.extents (extents_at w pieces) t))

-- Volumes of the configuration.

zero-head : (b : Bool) (n : ℕ) → cond b 1 0 + n ≡ 0 → b ≡ false
zero-head true n e = absurd (omega (arith, e))
zero-head false n e = refl

others-off : (n : List ℕ) (volumes : List VolumeDef) → times_volume n volumes ≡ 0 → AllByRecursion (λ (v : VolumeDef). bytes_eq v.volser n ≡ false) volumes
others-off n [] e = tt
others-off n (v ∷ volumes) e = (zero-head (bytes_eq v.volser n) (times_volume n volumes) e, others-off n volumes (omega (arith, e)))

off-tracks : (v w : VolumeDef) (volumes : List VolumeDef) → bytes_eq w.volser v.volser ≡ false → tracks_of w.volser volumes ≡ w.tracks → tracks_of w.volser (v ∷ volumes) ≡ w.tracks
off-tracks v w volumes off is = rw (bytes-turned w.volser v.volser off) is

-- each volume has its own tracks
pub each-tracks : (volumes : List VolumeDef) → ((n : List ℕ) → times_volume n volumes ≤ 1) → AllByRecursion (λ (v : VolumeDef). tracks_of v.volser volumes ≡ v.tracks) volumes
each-tracks [] once = tt
each-tracks (v ∷ volumes) once =
    let one : cond (bytes_eq v.volser v.volser) 1 zero ≡ suc zero = rw (bytes-self v.volser) refl in
    let gone : times_volume v.volser volumes ≡ 0 = omega (arith, once v.volser, one) in (
      rw (bytes-self v.volser) refl,
      each-both (λ (w : VolumeDef). tracks_of w.volser volumes ≡ w.tracks) (λ (w : VolumeDef). bytes_eq w.volser v.volser ≡ false) (λ (w : VolumeDef). tracks_of w.volser (v ∷ volumes) ≡ w.tracks) volumes
          (λ w is off. off-tracks v w volumes off is) (each-tracks volumes (λ n. omega (arith, once n))) (others-off v.volser volumes gone),
    )

find-volser-at : (n : List ℕ) (v : VolumeDef) (volumes : List VolumeDef) (volume : VolumeDef) (b : Bool) → bytes_eq v.volser n ≡ b
    → (find (λ (x : VolumeDef). bytes_eq x.volser n) volumes ≡ Some volume → (volume.volser ≡ n) × (tracks_of n volumes ≡ volume.tracks))
    → find (λ (x : VolumeDef). bytes_eq x.volser n) (v ∷ volumes) ≡ Some volume → (volume.volser ≡ n) × (tracks_of n (v ∷ volumes) ≡ volume.tracks)
find-volser-at n v volumes volume true is rest found =
    let now : Some v ≡ Some volume = rw is at found in
    let same : v ≡ volume = cc in
    (ap (λ (x : VolumeDef). x.volser) (sym same) ∙ same-bytes v.volser n is, rw is (ap (λ (x : VolumeDef). x.tracks) same))
find-volser-at n v volumes volume false is rest found =
    let now : find (λ (x : VolumeDef). bytes_eq x.volser n) volumes ≡ Some volume = rw is at found in
    let both = rest now in (both.0, rw is both.1)

pub find-volser : (n : List ℕ) (volumes : List VolumeDef) (volume : VolumeDef) → find (λ (x : VolumeDef). bytes_eq x.volser n) volumes ≡ Some volume → (volume.volser ≡ n) × (tracks_of n volumes ≡ volume.tracks)
find-volser n [] volume found = absurd cc
find-volser n (v ∷ volumes) volume found = find-volser-at n v volumes volume _ refl (λ e. find-volser n volumes volume e) found

used-head : (n : List ℕ) (e : Extent) (es : List Extent) → n ≡ e.volser → is_used n (e ∷ es) ≡ true
used-head n e es same = rw (bytes-same e.volser n (sym same)) refl

used-tail-at : (n : List ℕ) (e : Extent) (es : List Extent) (b : Bool) → bytes_eq e.volser n ≡ b → is_used n es ≡ true → is_used n (e ∷ es) ≡ true
used-tail-at n e es true is there = rw is refl
used-tail-at n e es false is there = rw is there

pub used-tail : (n : List ℕ) (e : Extent) (es : List Extent) → is_used n es ≡ true → is_used n (e ∷ es) ≡ true
used-tail n e es there = used-tail-at n e es _ refl there

-- the last volume is one on which extents lie
pub last-is : (s : DeskState) (es : List Extent) (volume : VolumeDef) → last_volume s es ≡ Some volume
    → (is_used volume.volser es ≡ true) × (tracks_of volume.volser (volumes_in s.active) ≡ volume.tracks)
last-is s [] volume found = absurd cc
last-is s (e ∷ []) volume found =
    let both = find-volser e.volser (volumes_in s.active) volume found in
    (used-head volume.volser e [] both.0, subst (λ n. tracks_of n (volumes_in s.active) ≡ volume.tracks) (sym both.0) both.1)
last-is s (e ∷ f ∷ es) volume found =
    let rest = last-is s (f ∷ es) volume found in (used-tail volume.volser e (f ∷ es) rest.0, rest.1)
