-- The running volumes stand for the state again when a configuration became active.
use Rattle.std.proofs.Common.{◌≡◌, ◌≤◌, ◌<◌, ℕ, zero, suc, ◌+◌, Bool, true, false, cond, List, [], ◌∷◌, ◌++◌, length}
use Rattle.std.proofs.Common.{map, get_or, set, take, refl, sym, ap, ◌∙◌, subst, arith}
use Rattle.std.specs.Prelude.{Option, None, Some, bytes_eq, find, nat_lt, ◌&&◌, option_map, slice_get, slice_set}
use Rattle.std.specs.List.{AllByRecursion, AllZip}
use Rattle.std.proofs.lemmas.Bool.Decides.{nat_tests}
use Rattle.sms_construct.specs.Configuration.{Configuration, IsConfiguration}
use Rattle.acs_tree.specs.declared.kind.Kind.TheVariants.{StorGrp}
use Rattle.sms_construct.specs.declared.data_set.DataSet.{DataSet}
use Rattle.sms_construct.specs.declared.extent.Extent.{Extent}
use Rattle.sms_construct.specs.declared.status.Status.TheVariants.{NotCon}
use Rattle.sms_construct.specs.declared.storage_group.StorGroup.{StorGroup}
use Rattle.sms_construct.specs.declared.target.Target.TheVariants.{Group, Volume}
use Rattle.sms_construct.specs.declared.volume.VolumeDef.{VolumeDef}
use Rattle.sms_keeper.specs.declared.status_row.StatusRow.{StatusRow}
use Rattle.track_ledger.specs.declared.piece.Piece.{Piece}
use Rattle.track_ledger.specs.Ledger.{IsLedgerOf, LedgerView}
use Rattle.desk_law.specs.State.{DeskState}
use Rattle.desk_law.specs.Activation.{activated, first_barred, row_of_group, row_of_volume, statuses_under}
use Rattle.desk_law.specs.Extents.{extents_of, held_on, pieces_on}
use Rattle.desk_law.specs.Lawful.{IsInside, IsLawful, IsLawfulSet}
use Rattle.desk_law.specs.Statuses.{status_in}
use Rattle.desk_law.specs.Volumes.{times_group, times_volume, tracks_of, volumes_in}
use Rattle.desk_law.proofs.AscendLemmas.{groups-once, volumes-once}
use Rattle.desk_law.proofs.ByteLemmas.{bytes-self, bytes-turned, same-bytes}
use Rattle.desk_law.proofs.GrantLemmas.{each-tracks}
use Rattle.desk_law.proofs.PlaceLemmas.{each-both, find-each}
use Rattle.sms_volumes.specs.Inner.Barring.{bars, running_barred}
use Rattle.sms_volumes.specs.Inner.Handing.{AreApart, HasTaken, ledger_taken}
use Rattle.sms_volumes.specs.Holding.{AreVolumesOf, IsGroupOf, IsVolumeOf}
use Rattle.sms_volumes.specs.Next.{AreNext, IsNextGroup, IsNextVolume}
use Rattle.sms_volumes.specs.Viewing.{running_named}
use Rattle.sms_volumes.specs.declared.active_group.ActiveGroup.{ActiveGroup}
use Rattle.sms_volumes.specs.declared.active_volume.ActiveVolume.{ActiveVolume}
use Rattle.sms_volumes.specs.declared.active_volumes.ActiveVolumes.{ActiveVolumes}
use Rattle.sms_volumes.proofs.BarLemmas.{barred-is}
use Rattle.sms_volumes.proofs.ChangeLemmas.{each-zip, map-zip}
use Rattle.sms_volumes.proofs.HeldLemmas.{pieces-append}
use Rattle.sms_volumes.proofs.NextLemmas.{volume-none, volume-some}
use Rattle.sms_volumes.proofs.ZipLemmas.{IsOver, over-all, over-next, over-none, read-same}

-- The old volumes as they are emptied.

named-set-at : (n : List ℕ) (x : ActiveVolume) (volumes others : List ActiveVolume) (b : Bool) → bytes_eq x.volume.volser n ≡ b → running_named n others ≡ running_named n volumes
    → running_named n (x ∷ others) ≡ running_named n (x ∷ volumes)
named-set-at n x volumes others true is rest = rw is refl
named-set-at n x volumes others false is rest = rw is rest

-- a volume of another serial may become another of that serial
pub named-set : (n : List ℕ) (volumes : List ActiveVolume) (place : ℕ) (v w : ActiveVolume) → slice_get volumes place ≡ Some v → w.volume ≡ v.volume → bytes_eq v.volume.volser n ≡ false
    → running_named n (slice_set volumes place w) ≡ running_named n volumes
named-set n [] place v w there same off = absurd cc
named-set n (x ∷ volumes) zero v w there same off =
    let is : x ≡ v = cc in
    let old : bytes_eq x.volume.volser n ≡ false = ap (λ (y : ActiveVolume). bytes_eq y.volume.volser n) is ∙ off in
    let new : bytes_eq w.volume.volser n ≡ false = ap (λ (d : VolumeDef). bytes_eq d.volser n) same ∙ off in
    rw (old, new) refl
named-set n (x ∷ volumes) (suc place) v w there same off = named-set-at n x volumes (slice_set volumes place w) _ refl (named-set n volumes place v w there same off)

-- what was found of a serial is of it
pub beside-found : (serial n : List ℕ) (volumes : List ActiveVolume) (place : ℕ) (v w : ActiveVolume) → running_named serial volumes ≡ slice_get volumes place → slice_get volumes place ≡ Some v → w.volume ≡ v.volume
    → bytes_eq serial n ≡ false → running_named n (slice_set volumes place w) ≡ running_named n volumes
beside-found serial n volumes place v w found there same off =
    let own = volume-some serial volumes v (found ∙ there) in
    named-set n volumes place v w there same (ap (λ (m : List ℕ). bytes_eq m n) (same-bytes v.volume.volser serial own.same) ∙ off)

-- Going over the next volumes.

-- those in front have taken over, and of the old ones the others are as they were
pub record IsTaking (was now xs ys : List ActiveVolume) (i : ℕ) : Type 0 where
  pub over : IsOver (λ (before after : ActiveVolume). HasTaken (running_named before.volume.volser was) before after) xs ys i
  pub others : (n : List ℕ) → times_volume n (map (λ (v : ActiveVolume). v.volume) (take i xs)) ≡ 0 → running_named n now ≡ running_named n was

pub taking-none : (was xs : List ActiveVolume) → IsTaking was was xs xs 0
taking-none was xs = record { over = over-none (λ (before after : ActiveVolume). HasTaken (running_named before.volume.volser was) before after) xs; others = λ n none. refl }

times-front : (n : List ℕ) (xs : List ActiveVolume) (i : ℕ) (d : ActiveVolume) → i < length xs
    → times_volume n (map (λ (v : ActiveVolume). v.volume) (take (suc i) xs)) ≡ times_volume n (map (λ (v : ActiveVolume). v.volume) (take i xs)) + cond (bytes_eq (get_or xs i d).volume.volser n) 1 0
times-front n [] i d lt = absurd (omega (arith, lt))
times-front n (x ∷ []) zero d lt = omega arith
times-front n (x ∷ (y ∷ xs)) zero d lt = omega arith
times-front n (x ∷ xs) (suc i) d lt =
    let rest = times-front n xs i d (omega (arith, lt)) in omega (arith, rest)

times-within : (n : List ℕ) (xs : List ActiveVolume) (i : ℕ) → times_volume n (map (λ (v : ActiveVolume). v.volume) (take i xs)) ≤ times_volume n (map (λ (v : ActiveVolume). v.volume) xs)
times-within n [] zero = omega arith
times-within n [] (suc i) = omega arith
times-within n (x ∷ xs) zero = omega arith
times-within n (x ∷ xs) (suc i) =
    let rest = times-within n xs i in omega (arith, rest)

none-cond : (b : Bool) (m : ℕ) → m + cond b 1 0 ≡ 0 → b ≡ false
none-cond true m none = absurd (omega (arith, none))
none-cond false m none = refl

-- the next one takes over
pub taking-next : (was now after xs ys : List ActiveVolume) (i : ℕ) (d w : ActiveVolume) → i < length ys → AreApart xs → IsTaking was now xs ys i → HasTaken (running_named (get_or ys i d).volume.volser now) (get_or ys i d) w
    → ((n : List ℕ) → bytes_eq (get_or ys i d).volume.volser n ≡ false → running_named n after ≡ running_named n now) → IsTaking was after xs (set ys i w) (i + 1)
taking-next was now after xs ys i d w lt apart taking has others =
    let over = taking.over in
    let R : ActiveVolume → ActiveVolume → Type 0 = λ (before after : ActiveVolume). HasTaken (running_named before.volume.volser was) before after in
    let v = get_or ys i d in
    let n = v.volume.volser in
    let same : v ≡ get_or xs i d = read-same xs ys i d over.rest over.same in
    let within : i < length xs = (let long = over.same in omega (arith, lt, long)) in
    let own : bytes_eq (get_or xs i d).volume.volser n ≡ true = ap (λ (x : ActiveVolume). bytes_eq x.volume.volser n) (sym same) ∙ bytes-self n in
    let one : cond (bytes_eq (get_or xs i d).volume.volser n) 1 zero ≡ suc zero = rw own refl in
    let gone : times_volume n (map (λ (x : ActiveVolume). x.volume) (take i xs)) ≡ 0 = omega (arith, apart n, times-within n xs (suc i), times-front n xs i d within, one) in
    let here : HasTaken (running_named n was) v w = subst (λ (o : Option ActiveVolume). HasTaken o v w) (taking.others n gone) has in
    record {
      over = over-next R xs ys i d w lt over here;
      others = λ m none.
          let more : i + 1 ≡ suc i = omega arith in
          let front : times_volume m (map (λ (x : ActiveVolume). x.volume) (take (suc i) xs)) ≡ 0 = subst (λ (k : ℕ). times_volume m (map (λ (x : ActiveVolume). x.volume) (take k xs)) ≡ 0) more none in
          let sum : times_volume m (map (λ (x : ActiveVolume). x.volume) (take i xs)) + cond (bytes_eq (get_or xs i d).volume.volser m) 1 0 ≡ 0 = sym (times-front m xs i d within) ∙ front in
          let off : bytes_eq (get_or xs i d).volume.volser m ≡ false = none-cond (bytes_eq (get_or xs i d).volume.volser m) _ sum in
          others m (ap (λ (x : ActiveVolume). bytes_eq x.volume.volser m) same ∙ off) ∙ taking.others m (omega (arith, sum));
    }

pub taking-all : (was now xs ys : List ActiveVolume) (i : ℕ) → i ≡ length ys → IsTaking was now xs ys i → AllZip (λ (before after : ActiveVolume). HasTaken (running_named before.volume.volser was) before after) xs ys
taking-all was now xs ys i is taking =
    let R : ActiveVolume → ActiveVolume → Type 0 = λ (before after : ActiveVolume). HasTaken (running_named before.volume.volser was) before after in
    let over = taking.over in
    over-all R xs ys (subst (IsOver R xs ys) (is ∙ over.same) over)

-- The statuses under the next configuration.

groups-off : (n : List ℕ) (groups : List StorGroup) → times_group n groups ≡ 0 → AllByRecursion (λ (g : StorGroup). bytes_eq g.name n ≡ false) groups
groups-off n [] none = tt
groups-off n (g ∷ groups) none = (none-cond (bytes_eq g.name n) (times_group n groups) (omega (arith, none)), groups-off n groups (omega (arith, none)))

volumes-off : (n : List ℕ) (volumes : List VolumeDef) → times_volume n volumes ≡ 0 → AllByRecursion (λ (v : VolumeDef). bytes_eq v.volser n ≡ false) volumes
volumes-off n [] none = tt
volumes-off n (v ∷ volumes) none = (none-cond (bytes_eq v.volser n) (times_volume n volumes) (omega (arith, none)), volumes-off n volumes (omega (arith, none)))

each-group-under : (present rest : List StatusRow) (groups : List StorGroup) → ((n : List ℕ) → times_group n groups ≤ 1)
    → AllByRecursion (λ (g : StorGroup). status_in (map (row_of_group present) groups ++ rest) (Group g.name) NotCon ≡ (row_of_group present g).status) groups
each-group-under present rest [] once = tt
each-group-under present rest (x ∷ groups) once =
    let one : cond (bytes_eq x.name x.name) 1 zero ≡ suc zero = rw (bytes-self x.name) refl in
    let gone : times_group x.name groups ≡ 0 = omega (arith, once x.name, one) in (
      rw (bytes-self x.name) refl,
      each-both (λ (g : StorGroup). status_in (map (row_of_group present) groups ++ rest) (Group g.name) NotCon ≡ (row_of_group present g).status) (λ (g : StorGroup). bytes_eq g.name x.name ≡ false)
          (λ (g : StorGroup). status_in (map (row_of_group present) (x ∷ groups) ++ rest) (Group g.name) NotCon ≡ (row_of_group present g).status) groups
          (λ g is off. rw (bytes-turned g.name x.name off) is) (each-group-under present rest groups (λ n. omega (arith, once n))) (groups-off x.name groups gone),
    )

no-volume : (present rest : List StatusRow) (groups : List StorGroup) (n : List ℕ) → status_in (map (row_of_group present) groups ++ rest) (Volume n) NotCon ≡ status_in rest (Volume n) NotCon
no-volume present rest [] n = refl
no-volume present rest (g ∷ groups) n = no-volume present rest groups n

each-volume-under : (present : List StatusRow) (volumes : List VolumeDef) → ((n : List ℕ) → times_volume n volumes ≤ 1)
    → AllByRecursion (λ (v : VolumeDef). status_in (map (row_of_volume present) volumes) (Volume v.volser) NotCon ≡ (row_of_volume present v).status) volumes
each-volume-under present [] once = tt
each-volume-under present (x ∷ volumes) once =
    let one : cond (bytes_eq x.volser x.volser) 1 zero ≡ suc zero = rw (bytes-self x.volser) refl in
    let gone : times_volume x.volser volumes ≡ 0 = omega (arith, once x.volser, one) in (
      rw (bytes-self x.volser) refl,
      each-both (λ (v : VolumeDef). status_in (map (row_of_volume present) volumes) (Volume v.volser) NotCon ≡ (row_of_volume present v).status) (λ (v : VolumeDef). bytes_eq v.volser x.volser ≡ false)
          (λ (v : VolumeDef). status_in (map (row_of_volume present) (x ∷ volumes)) (Volume v.volser) NotCon ≡ (row_of_volume present v).status) volumes
          (λ v is off. rw (bytes-turned v.volser x.volser off) is) (each-volume-under present volumes (λ n. omega (arith, once n))) (volumes-off x.volser volumes gone),
    )

each-unmapped : {X Y : Type 0} (f : X → Y) (P : Y → Type 0) (xs : List X) → AllByRecursion P (map f xs) → AllByRecursion (λ (x : X). P (f x)) xs
each-unmapped f P [] all = tt
each-unmapped f P (x ∷ xs) all = (all.0, each-unmapped f P xs all.1)

-- Volumes on which nothing lies.

no-tracks-at : (n : List ℕ) (v : VolumeDef) (volumes : List VolumeDef) (b : Bool) → bytes_eq v.volser n ≡ b → cond b 1 0 + times_volume n volumes ≡ 0 → (times_volume n volumes ≡ 0 → tracks_of n volumes ≡ 0) → tracks_of n (v ∷ volumes) ≡ 0
no-tracks-at n v volumes true is none rest = absurd (omega (arith, none))
no-tracks-at n v volumes false is none rest = rw is (rest (omega (arith, none)))

no-tracks : (n : List ℕ) (volumes : List VolumeDef) → times_volume n volumes ≡ 0 → tracks_of n volumes ≡ 0
no-tracks n [] none = refl
no-tracks n (v ∷ volumes) none = no-tracks-at n v volumes _ refl none (no-tracks n volumes)

none-lies-at : (n : List ℕ) (volumes : List VolumeDef) (e : Extent) (es : List Extent) (b : Bool) → bytes_eq e.volser n ≡ b → tracks_of n volumes ≡ 0 → IsInside volumes e → pieces_on n es ≡ [] → pieces_on n (e ∷ es) ≡ []
none-lies-at n volumes e es true is none inside rest =
    let moved : tracks_of e.volser volumes ≡ 0 = ap (λ (m : List ℕ). tracks_of m volumes) (same-bytes e.volser n is) ∙ none in
    let some = inside.0 in
    let within = inside.1 in
    absurd (omega (arith, some, within, moved))
none-lies-at n volumes e es false is none inside rest = rw is rest

none-lies : (n : List ℕ) (volumes : List VolumeDef) (es : List Extent) → tracks_of n volumes ≡ 0 → AllByRecursion (IsInside volumes) es → pieces_on n es ≡ []
none-lies n volumes [] none all = refl
none-lies n volumes (e ∷ es) none all = none-lies-at n volumes e es _ refl none all.0 (none-lies n volumes es none all.1)

none-held : (n : List ℕ) (volumes : List VolumeDef) (sets : List DataSet) → tracks_of n volumes ≡ 0 → AllByRecursion (IsLawfulSet volumes) sets → pieces_on n (extents_of sets) ≡ []
none-held n volumes [] none all = refl
none-held n volumes (set ∷ sets) none all =
    let head = none-lies n volumes set.extents none all.0.inside in
    let rest = none-held n volumes sets none all.1 in
    pieces-append n set.extents (extents_of sets) ∙ rw (head, rest) refl

-- a volume that wasn't active holds nothing
fresh-ledger : (s : DeskState) (n : List ℕ) (l : LedgerView) → IsLawful s → times_volume n (volumes_in s.active) ≡ 0 → IsLedgerOf [] l → IsLedgerOf (held_on s n) l
fresh-ledger s n l lawful gone free =
    subst (λ (held : List Piece). IsLedgerOf held l) (sym (none-held n (volumes_in s.active) s.sets (no-tracks n (volumes_in s.active) gone) lawful.sets)) free

-- A volume that takes over what is held.

find-none-at : {X : Type 0} (p : X → Bool) (x : X) (xs : List X) (b : Bool) → p x ≡ b → (find p xs ≡ None → AllByRecursion (λ (y : X). p y ≡ false) xs) → find p (x ∷ xs) ≡ None → AllByRecursion (λ (y : X). p y ≡ false) (x ∷ xs)
find-none-at p x xs true is rest none =
    let now : Some x ≡ None = rw is at none in absurd cc
find-none-at p x xs false is rest none =
    let now : find p xs ≡ None = rw is at none in (is, rest now)

find-none : {X : Type 0} (p : X → Bool) (xs : List X) → find p xs ≡ None → AllByRecursion (λ (x : X). p x ≡ false) xs
find-none p [] none = tt
find-none p (x ∷ xs) none = find-none-at p x xs _ refl (find-none p xs) none

no-running : (found : Option ActiveVolume) → option_map (λ (x : ActiveVolume). x.volume) found ≡ None → found ≡ None
no-running None is = refl
no-running (Some x) is = absurd cc

none-long : (held : List Piece) → nat_lt 0 (length held) ≡ false → held ≡ []
none-long [] is = refl
none-long (p ∷ held) is = absurd (let le : suc (length held) ≤ 0 = grind (arith, nat_tests, is) in omega (arith, le))

-- a volume that doesn't bar, and would if it held something, holds nothing
not-barred : (o : ActiveVolume) (held : List Piece) (others : List VolumeDef) → IsLedgerOf held o.ledger → bars others o ≡ false → nat_lt (tracks_of o.volume.volser others) o.volume.tracks ≡ true → held ≡ []
not-barred o held others is off less =
    let now : (nat_lt 0 o.ledger.extents && true) ≡ false = rw less at off in
    none-long held (ap (nat_lt 0) (sym is.extents) ∙ only (nat_lt 0 o.ledger.extents) now)
  where
    only : (b : Bool) → (b && true) ≡ false → b ≡ false
    only true is = is
    only false is = refl

taken-held-at : (v o : ActiveVolume) (held : List Piece) (b : Bool) → nat_lt v.volume.tracks o.ledger.capacity ≡ b → IsLedgerOf [] v.ledger → IsLedgerOf held o.ledger → (b ≡ true → held ≡ [])
    → IsLedgerOf held (ledger_taken (Some o) v)
taken-held-at v o held true is free own empty = rw is (subst (λ (x : List Piece). IsLedgerOf x v.ledger) (sym (empty refl)) free)
taken-held-at v o held false is free own empty = rw is own

taken-ledger : (s : DeskState) (old : ActiveVolumes) (config : Configuration) (v w o : ActiveVolume) → AreVolumesOf s old → first_barred s config ≡ None → running_named v.volume.volser old.volumes.items ≡ Some o
    → tracks_of v.volume.volser config.volumes ≡ v.volume.tracks → IsLedgerOf [] v.ledger → HasTaken (Some o) v w → IsLedgerOf (held_on s v.volume.volser) w.ledger
taken-ledger s old config v w o are none found tracks free has =
    let n = v.volume.volser in
    let own = find-each (IsVolumeOf s old.groups.items) (λ (x : ActiveVolume). bytes_eq x.volume.volser n) old.volumes.items o are.each_volume found in
    let there = volume-some n old.volumes.items o found in
    let serial : o.volume.volser ≡ n = same-bytes o.volume.volser n there.same in
    let each = find-none (bars config.volumes) old.volumes.items (no-running (running_barred config.volumes old.volumes.items) (barred-is s old config are ∙ none)) in
    let off : bars config.volumes o ≡ false = find-each (λ (x : ActiveVolume). bars config.volumes x ≡ false) (λ (x : ActiveVolume). bytes_eq x.volume.volser n) old.volumes.items o each found in
    let sizes : nat_lt v.volume.tracks o.ledger.capacity ≡ nat_lt (tracks_of o.volume.volser config.volumes) o.volume.tracks =
    ap (nat_lt v.volume.tracks) own.capacity ∙ ap (λ (k : ℕ). nat_lt k o.volume.tracks) (sym (ap (λ (m : List ℕ). tracks_of m config.volumes) serial ∙ tracks)) in
    let held : IsLedgerOf (held_on s n) o.ledger = subst (λ (m : List ℕ). IsLedgerOf (held_on s m) o.ledger) serial own.ledger in
    has.ledger (held_on s n) (taken-held-at v o (held_on s n) _ refl free held (λ less. not-barred o (held_on s n) config.volumes held off (sym sizes ∙ less)))

next-ledger : (s : DeskState) (old : ActiveVolumes) (config : Configuration) (v w : ActiveVolume) (found : Option ActiveVolume) → IsLawful s → AreVolumesOf s old → first_barred s config ≡ None
    → running_named v.volume.volser old.volumes.items ≡ found → tracks_of v.volume.volser config.volumes ≡ v.volume.tracks → IsLedgerOf [] v.ledger → HasTaken found v w
    → IsLedgerOf (held_on s v.volume.volser) w.ledger
next-ledger s old config v w None lawful are none found tracks free has =
    let gone = subst (λ (l : List VolumeDef). times_volume v.volume.volser l ≡ 0) are.volumes_are (volume-none v.volume.volser old.volumes.items found) in
    fresh-ledger s v.volume.volser w.ledger lawful gone (has.ledger [] free)
next-ledger s old config v w (Some o) lawful are none found tracks free has = taken-ledger s old config v w o are none found tracks free has

-- The whole.

-- what is known of each of the next volumes
record IsKnown (s : DeskState) (config : Configuration) (groups : List ActiveGroup) (v : ActiveVolume) : Type 0 where
  pub next : IsNextVolume s.statuses config groups v
  pub status : status_in (map (row_of_volume s.statuses) config.volumes) (Volume v.volume.volser) NotCon ≡ (row_of_volume s.statuses v.volume).status
  pub tracks : tracks_of v.volume.volser config.volumes ≡ v.volume.tracks

volume-taken : (s : DeskState) (old : ActiveVolumes) (config : Configuration) (groups : List ActiveGroup) (v w : ActiveVolume) → IsLawful s → AreVolumesOf s old → first_barred s config ≡ None → IsKnown s config groups v
    → HasTaken (running_named v.volume.volser old.volumes.items) v w → IsVolumeOf (activated s config) groups w
volume-taken s old config groups v w lawful are none known has =
    let next = known.next in
    let t = activated s config in
    let place = next.group in
    let ledger : IsLedgerOf (held_on s v.volume.volser) w.ledger = next-ledger s old config v w _ lawful are none refl known.tracks next.free has in
    let under : status_in t.statuses (Volume v.volume.volser) NotCon ≡ (row_of_volume s.statuses v.volume).status =
    no-volume s.statuses (map (row_of_volume s.statuses) config.volumes) config.groups v.volume.volser ∙ known.status in
    record {
      status = has.status ∙ (next.status ∙ (sym under ∙ ap (λ (d : VolumeDef). status_in t.statuses (Volume d.volser) NotCon) (sym has.volume)));
      group = record {
        group = place.group;
        there = ap (slice_get groups) has.group ∙ place.there;
        named = subst (λ (d : VolumeDef). find (λ (g : StorGroup). bytes_eq g.name d.group) config.groups ≡ Some place.group.group) (sym has.volume) place.named;
      };
      capacity = has.capacity next.capacity ∙ ap (λ (d : VolumeDef). d.tracks) (sym has.volume);
      ledger = subst (λ (d : VolumeDef). IsLedgerOf (held_on s d.volser) w.ledger) (sym has.volume) ledger;
    }

group-taken : (s : DeskState) (config : Configuration) (g : ActiveGroup) → IsNextGroup s.statuses config g
    → status_in (statuses_under config s.statuses) (Group g.group.name) NotCon ≡ (row_of_group s.statuses g.group).status → IsGroupOf (activated s config) g
group-taken s config g next under = record { status = next.status ∙ sym under; volumes = next.volumes }

pub apart-next : (config : Configuration) (present : List StatusRow) (next : ActiveVolumes) → AreNext present config next → IsConfiguration config → AreApart next.volumes.items
apart-next config present next are is = λ n. subst (λ (l : List VolumeDef). times_volume n l ≤ 1) (sym are.volumes_are) (volumes-once n config.volumes is.volsers)

pub all-taken : (s : DeskState) (config : Configuration) (old next after : ActiveVolumes) → IsLawful s → AreVolumesOf s old → AreNext s.statuses config next → first_barred s config ≡ None → IsConfiguration config
    → after.groups.items ≡ next.groups.items
    → AllZip (λ (before after : ActiveVolume). HasTaken (running_named before.volume.volser old.volumes.items) before after) next.volumes.items after.volumes.items → AreVolumesOf (activated s config) after
all-taken s config old next after lawful are coming none is groups zip =
    let t = activated s config in
    let R : ActiveVolume → ActiveVolume → Type 0 = λ (x y : ActiveVolume). HasTaken (running_named x.volume.volser old.volumes.items) x y in
    let once : (n : List ℕ) → times_volume n config.volumes ≤ 1 = λ n. volumes-once n config.volumes is.volsers in
    let S : VolumeDef → Type 0 = λ (d : VolumeDef). status_in (map (row_of_volume s.statuses) config.volumes) (Volume d.volser) NotCon ≡ (row_of_volume s.statuses d).status in
    let T : VolumeDef → Type 0 = λ (d : VolumeDef). tracks_of d.volser config.volumes ≡ d.tracks in
    let G : StorGroup → Type 0 = λ (g : StorGroup). status_in (statuses_under config s.statuses) (Group g.name) NotCon ≡ (row_of_group s.statuses g).status in
    let K : ActiveVolume → Type 0 = IsKnown s config next.groups.items in
    let statuses = each-unmapped (λ (v : ActiveVolume). v.volume) S next.volumes.items (subst (AllByRecursion S) (sym coming.volumes_are) (each-volume-under s.statuses config.volumes once)) in
    let tracks = each-unmapped (λ (v : ActiveVolume). v.volume) T next.volumes.items (subst (AllByRecursion T) (sym coming.volumes_are) (each-tracks config.volumes once)) in
    let named = each-unmapped (λ (g : ActiveGroup). g.group) G next.groups.items
    (subst (AllByRecursion G) (sym coming.groups_are) (each-group-under s.statuses (map (row_of_volume s.statuses) config.volumes) config.groups (λ n. groups-once n config.groups (is.names StorGrp)))) in
    let both = each-both (IsNextVolume s.statuses config next.groups.items) (λ (v : ActiveVolume). S v.volume) (λ (v : ActiveVolume). IsNextVolume s.statuses config next.groups.items v × S v.volume) next.volumes.items
    (λ v a b. (a, b)) coming.each_volume statuses in
    let known = each-both (λ (v : ActiveVolume). IsNextVolume s.statuses config next.groups.items v × S v.volume) (λ (v : ActiveVolume). T v.volume) K next.volumes.items
    (λ v a b. record { next = a.0; status = a.1; tracks = b }) both tracks in
    record {
      groups_are = ap (map (λ (g : ActiveGroup). g.group)) groups ∙ coming.groups_are;
      volumes_are = map-zip R (λ (v : ActiveVolume). v.volume) next.volumes.items after.volumes.items zip (λ x y has. has.volume) ∙ coming.volumes_are;
      each_group = subst (AllByRecursion (IsGroupOf t)) (sym groups)
          (each-both (IsNextGroup s.statuses config) (λ (g : ActiveGroup). G g.group) (IsGroupOf t) next.groups.items (λ g a b. group-taken s config g a b) coming.each_group named);
      each_volume = subst (λ (l : List ActiveGroup). AllByRecursion (IsVolumeOf t l) after.volumes.items) (sym groups)
          (each-zip R K (IsVolumeOf t next.groups.items) next.volumes.items after.volumes.items zip known (λ x y has k. volume-taken s old config next.groups.items x y lawful are none k has));
    }
