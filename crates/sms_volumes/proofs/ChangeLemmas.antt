-- The running volumes when one of them changed.
use Rattle.std.proofs.Common.{◌≡◌, ◌≤◌, ℕ, zero, suc, ◌+◌, Bool, true, false, cond, List, [], ◌∷◌, ◌++◌, length, map}
use Rattle.std.proofs.Common.{refl, sym, ap, ◌∙◌, subst, arith, append_assoc}
use Rattle.std.specs.Prelude.{None, Option, Some, bytes_eq, filter, find, slice_get, slice_set}
use Rattle.std.specs.List.{AllByRecursion, AllZip}
use Rattle.sms_construct.specs.declared.extent.Extent.{Extent}
use Rattle.sms_construct.specs.Configuration.{Configuration}
use Rattle.sms_construct.specs.declared.storage_group.StorGroup.{StorGroup}
use Rattle.sms_construct.specs.declared.status.Status.TheVariants.{NotCon}
use Rattle.sms_construct.specs.declared.target.Target.TheVariants as targets
use Rattle.sms_construct.specs.declared.volume.VolumeDef.{VolumeDef}
use Rattle.sms_keeper.specs.declared.status_row.StatusRow.{StatusRow}
use Rattle.track_ledger.specs.declared.piece.Piece.{Piece}
use Rattle.track_ledger.specs.Ledger.{IsLedgerOf, LedgerView}
use Rattle.desk_law.specs.State.{DeskState}
use Rattle.desk_law.specs.Extents.{held_on, pieces_on}
use Rattle.desk_law.specs.Statuses.{status_in}
use Rattle.desk_law.specs.Volumes.{groups_in, times_volume, volumes_in}
use Rattle.sms_volumes.specs.Changing.{HasChanged, HoldsAll}
use Rattle.sms_volumes.specs.Inner.Handing.{AreApart}
use Rattle.sms_volumes.specs.Holding.{AreVolumesOf, IsGroupOf, IsVolumeOf, StandsAt}
use Rattle.sms_volumes.specs.Viewing.{running_named}
use Rattle.sms_volumes.specs.declared.active_group.ActiveGroup.{ActiveGroup}
use Rattle.sms_volumes.specs.declared.active_volume.ActiveVolume.{ActiveVolume}
use Rattle.sms_volumes.specs.declared.active_volumes.ActiveVolumes.{ActiveVolumes}
use Rattle.sms_volumes.proofs.HeldLemmas.{ledger-swap, pieces-append}

-- Lists.

pub each-zip : {X : Type 0} (R : X → X → Type 0) (P Q : X → Type 0) (xs ys : List X) → AllZip R xs ys → AllByRecursion P xs → ((x y : X) → R x y → P x → Q y) → AllByRecursion Q ys
each-zip R P Q [] [] zip all step = tt
each-zip R P Q [] (y ∷ ys) zip all step = absurd zip
each-zip R P Q (x ∷ xs) [] zip all step = absurd zip
each-zip R P Q (x ∷ xs) (y ∷ ys) zip all step = (step x y zip.0 all.0, each-zip R P Q xs ys zip.1 all.1 step)

pub map-zip : {X Y : Type 0} (R : X → X → Type 0) (f : X → Y) (xs ys : List X) → AllZip R xs ys → ((x y : X) → R x y → f y ≡ f x) → map f ys ≡ map f xs
map-zip R f [] [] zip step = refl
map-zip R f [] (y ∷ ys) zip step = absurd zip
map-zip R f (x ∷ xs) [] zip step = absurd zip
map-zip R f (x ∷ xs) (y ∷ ys) zip step =
    let head = step x y zip.0 in let rest = map-zip R f xs ys zip.1 step in rw (head, rest) refl

none-head : (b : Bool) (m : ℕ) → cond b 1 0 + m ≡ 0 → b ≡ false
none-head true m none = absurd (omega (arith, none))
none-head false m none = refl

there-once : (n : List ℕ) (volumes : List ActiveVolume) (place : ℕ) (v : ActiveVolume) → slice_get volumes place ≡ Some v → bytes_eq v.volume.volser n ≡ true → 1 ≤ times_volume n (map (λ (w : ActiveVolume). w.volume) volumes)
there-once n [] place v there is = absurd cc
there-once n (w ∷ volumes) zero v there is =
    let same : w ≡ v = cc in
    let on : bytes_eq w.volume.volser n ≡ true = ap (λ (x : ActiveVolume). bytes_eq x.volume.volser n) same ∙ is in
    let one : cond (bytes_eq w.volume.volser n) 1 zero ≡ suc zero = rw on refl in
    omega (arith, one)
there-once n (w ∷ volumes) (suc place) v there is =
    let rest = there-once n volumes place v there is in omega (arith, rest)

zip-off : (n : List ℕ) (R : ActiveVolume → ActiveVolume → Type 0) (volumes : List ActiveVolume) → times_volume n (map (λ (v : ActiveVolume). v.volume) volumes) ≡ 0
    → ((x : ActiveVolume) → bytes_eq x.volume.volser n ≡ false → R x x) → AllZip R volumes volumes
zip-off n R [] none stays = tt
zip-off n R (v ∷ volumes) none stays = (stays v (none-head (bytes_eq v.volume.volser n) _ none), zip-off n R volumes (omega (arith, none)) stays)

zip-none-at : (n : List ℕ) (R : ActiveVolume → ActiveVolume → Type 0) (v : ActiveVolume) (volumes : List ActiveVolume) (b : Bool) → bytes_eq v.volume.volser n ≡ b
    → ((x : ActiveVolume) → bytes_eq x.volume.volser n ≡ false → R x x) → (running_named n volumes ≡ None → AllZip R volumes volumes) → running_named n (v ∷ volumes) ≡ None → AllZip R (v ∷ volumes) (v ∷ volumes)
zip-none-at n R v volumes true is stays rest none =
    let now : Some v ≡ None = rw is at none in absurd cc
zip-none-at n R v volumes false is stays rest none =
    let now : running_named n volumes ≡ None = rw is at none in (stays v is, rest now)

-- no volume has the serial
pub zip-none : (n : List ℕ) (R : ActiveVolume → ActiveVolume → Type 0) (volumes : List ActiveVolume) → running_named n volumes ≡ None
    → ((x : ActiveVolume) → bytes_eq x.volume.volser n ≡ false → R x x) → AllZip R volumes volumes
zip-none n R [] none stays = tt
zip-none n R (v ∷ volumes) none stays = zip-none-at n R v volumes _ refl stays (λ now. zip-none n R volumes now stays) none

-- the volume at a place changed, and no other has its serial
pub zip-replaced : (n : List ℕ) (R : ActiveVolume → ActiveVolume → Type 0) (volumes : List ActiveVolume) (place : ℕ) (v w : ActiveVolume) → slice_get volumes place ≡ Some v → bytes_eq v.volume.volser n ≡ true
    → times_volume n (map (λ (x : ActiveVolume). x.volume) volumes) ≤ 1 → R v w → ((x : ActiveVolume) → bytes_eq x.volume.volser n ≡ false → R x x) → AllZip R volumes (slice_set volumes place w)
zip-replaced n R [] place v w there is once here stays = absurd cc
zip-replaced n R (x ∷ volumes) zero v w there is once here stays =
    let same : x ≡ v = cc in
    let on : bytes_eq x.volume.volser n ≡ true = ap (λ (y : ActiveVolume). bytes_eq y.volume.volser n) same ∙ is in
    let one : cond (bytes_eq x.volume.volser n) 1 zero ≡ suc zero = rw on refl in
    (subst (λ (y : ActiveVolume). R y w) (sym same) here, zip-off n R volumes (omega (arith, once, one)) stays)
zip-replaced n R (x ∷ volumes) (suc place) v w there is once here stays =
    let some = there-once n volumes place v there is in
    let off : bytes_eq x.volume.volser n ≡ false = none-head (bytes_eq x.volume.volser n) 0 (omega (arith, once, some)) in
    (stays x off, zip-replaced n R volumes place v w there is (omega (arith, once)) here stays)

pub zip-stays : (R : ActiveVolume → ActiveVolume → Type 0) (volumes : List ActiveVolume) → ((x : ActiveVolume) → R x x) → AllZip R volumes volumes
zip-stays R [] stays = tt
zip-stays R (v ∷ volumes) stays = (stays v, zip-stays R volumes stays)

-- the volume at a place changed, and each other stays whatever its serial
pub zip-set : (R : ActiveVolume → ActiveVolume → Type 0) (volumes : List ActiveVolume) (place : ℕ) (v w : ActiveVolume) → slice_get volumes place ≡ Some v → R v w → ((x : ActiveVolume) → R x x)
    → AllZip R volumes (slice_set volumes place w)
zip-set R [] place v w there here stays = absurd cc
zip-set R (x ∷ volumes) zero v w there here stays =
    let same : x ≡ v = cc in (subst (λ (y : ActiveVolume). R y w) (sym same) here, zip-stays R volumes stays)
zip-set R (x ∷ volumes) (suc place) v w there here stays = (stays x, zip-set R volumes place v w there here stays)

pub map-replaced : (volumes : List ActiveVolume) (place : ℕ) (v w : ActiveVolume) → slice_get volumes place ≡ Some v → w.volume ≡ v.volume
    → map (λ (x : ActiveVolume). x.volume) (slice_set volumes place w) ≡ map (λ (x : ActiveVolume). x.volume) volumes
map-replaced [] place v w there same = absurd cc
map-replaced (x ∷ volumes) zero v w there same =
    let is : x ≡ v = cc in
    let now : w.volume ≡ x.volume = same ∙ ap (λ (y : ActiveVolume). y.volume) (sym is) in
    ap (λ (d : VolumeDef). d ∷ map (λ (y : ActiveVolume). y.volume) volumes) now
map-replaced (x ∷ volumes) (suc place) v w there same = ap (λ (l : List VolumeDef). x.volume ∷ l) (map-replaced volumes place v w there same)

pub zip-map : (R S : ActiveVolume → ActiveVolume → Type 0) (xs ys : List ActiveVolume) → AllZip R xs ys → ((x y : ActiveVolume) → R x y → S x y) → AllZip S xs ys
zip-map R S [] [] zip step = tt
zip-map R S [] (y ∷ ys) zip step = absurd zip
zip-map R S (x ∷ xs) [] zip step = absurd zip
zip-map R S (x ∷ xs) (y ∷ ys) zip step = (step x y zip.0, zip-map R S xs ys zip.1 step)

zip-then : (R S T : ActiveVolume → ActiveVolume → Type 0) (xs ys zs : List ActiveVolume) → AllZip R xs ys → AllZip S ys zs → ((x y z : ActiveVolume) → R x y → S y z → T x z) → AllZip T xs zs
zip-then R S T [] [] [] one two step = tt
zip-then R S T [] [] (z ∷ zs) one two step = absurd two
zip-then R S T [] (y ∷ ys) zs one two step = absurd one
zip-then R S T (x ∷ xs) [] zs one two step = absurd one
zip-then R S T (x ∷ xs) (y ∷ ys) [] one two step = absurd two
zip-then R S T (x ∷ xs) (y ∷ ys) (z ∷ zs) one two step = (step x y z one.0 two.0, zip-then R S T xs ys zs one.1 two.1 step)

-- What the extents hold of one volume.

pub changed-none : (es : List Extent) (v : ActiveVolume) → HasChanged es es v v
changed-none es v = record { volume = refl; status = refl; group = refl; capacity = refl; ledger = λ rest is. is }

changed-then : (a b c : List Extent) (x y z : ActiveVolume) → HasChanged a b x y → HasChanged b c y z → HasChanged a c x z
changed-then a b c x y z one two = record {
  volume = two.volume ∙ one.volume;
  status = two.status ∙ one.status;
  group = two.group ∙ one.group;
  capacity = two.capacity ∙ one.capacity;
  ledger = λ rest is.
      subst (λ (d : VolumeDef). IsLedgerOf (pieces_on d.volser c ++ rest) z.ledger) one.volume
      (two.ledger rest (subst (λ (d : VolumeDef). IsLedgerOf (pieces_on d.volser b ++ rest) y.ledger) (sym one.volume) (one.ledger rest is)));
}

-- the pieces of three parts
parted : (v : List ℕ) (k f d : List Extent) (rest : List Piece) → pieces_on v (k ++ (f ++ d)) ++ rest ≡ pieces_on v k ++ (pieces_on v f ++ (pieces_on v d ++ rest))
parted v k f d rest =
    ap (λ (l : List Piece). l ++ rest) (pieces-append v k (f ++ d) ∙ ap (λ (l : List Piece). pieces_on v k ++ l) (pieces-append v f d))
    ∙ (append_assoc (pieces_on v k) (pieces_on v f ++ pieces_on v d) rest ∙ ap (λ (l : List Piece). pieces_on v k ++ l) (append_assoc (pieces_on v f) (pieces_on v d) rest))

-- one part changes
changed-within : (k e f d : List Extent) (x y : ActiveVolume) → HasChanged e f x y → HasChanged (k ++ (e ++ d)) (k ++ (f ++ d)) x y
changed-within k e f d x y has = record {
  volume = has.volume;
  status = has.status;
  group = has.group;
  capacity = has.capacity;
  ledger = λ rest is.
      let v = x.volume.volser in
      let left = pieces_on v k in
      let right = pieces_on v d ++ rest in
      subst (λ (l : List Piece). IsLedgerOf l y.ledger) (sym (parted v k f d rest))
      (ledger-swap (pieces_on v f) left right y.ledger
      (has.ledger (left ++ right) (ledger-swap left (pieces_on v e) right x.ledger (subst (λ (l : List Piece). IsLedgerOf l x.ledger) (parted v k e d rest) is))));
}

-- what a part holds is held
holds-part : (k e d : List Extent) (v : ActiveVolume) → HoldsAll (k ++ (e ++ d)) v → HoldsAll e v
holds-part k e d v holds = record {
  others = pieces_on v.volume.volser k ++ (pieces_on v.volume.volser d ++ holds.others);
  is = ledger-swap (pieces_on v.volume.volser k) (pieces_on v.volume.volser e) (pieces_on v.volume.volser d ++ holds.others) v.ledger
      (subst (λ (l : List Piece). IsLedgerOf l v.ledger) (parted v.volume.volser k e d holds.others) holds.is);
}

holds-after : (a b : List Extent) (x y : ActiveVolume) → HasChanged a b x y → HoldsAll a x → HoldsAll b y
holds-after a b x y has holds = record {
  others = holds.others;
  is = subst (λ (d : VolumeDef). IsLedgerOf (pieces_on d.volser b ++ holds.others) y.ledger) (sym has.volume) (has.ledger holds.others holds.is);
}

-- All volumes.

pub all-changed : (a b c : List Extent) (xs ys zs : List ActiveVolume) → AllZip (HasChanged a b) xs ys → AllZip (HasChanged b c) ys zs → AllZip (HasChanged a c) xs zs
all-changed a b c xs ys zs one two = zip-then (HasChanged a b) (HasChanged b c) (HasChanged a c) xs ys zs one two (changed-then a b c)

pub all-within : (k e f d : List Extent) (xs ys : List ActiveVolume) → AllZip (HasChanged e f) xs ys → AllZip (HasChanged (k ++ (e ++ d)) (k ++ (f ++ d))) xs ys
all-within k e f d xs ys zip = zip-map (HasChanged e f) (HasChanged (k ++ (e ++ d)) (k ++ (f ++ d))) xs ys zip (changed-within k e f d)

pub all-hold : (k e d : List Extent) (volumes : List ActiveVolume) → AllByRecursion (HoldsAll (k ++ (e ++ d))) volumes → AllByRecursion (HoldsAll e) volumes
all-hold k e d [] all = tt
all-hold k e d (v ∷ volumes) all = (holds-part k e d v all.0, all-hold k e d volumes all.1)

pub all-hold-after : (a b : List Extent) (xs ys : List ActiveVolume) → AllZip (HasChanged a b) xs ys → AllByRecursion (HoldsAll a) xs → AllByRecursion (HoldsAll b) ys
all-hold-after a b xs ys zip all = each-zip (HasChanged a b) (HoldsAll a) (HoldsAll b) xs ys zip all (holds-after a b)

pub apart-after : (a b : List Extent) (xs ys : List ActiveVolume) → AllZip (HasChanged a b) xs ys → AreApart xs → AreApart ys
apart-after a b xs ys zip apart = λ n. subst (λ (l : List VolumeDef). times_volume n l ≤ 1) (sym (map-zip (HasChanged a b) (λ (v : ActiveVolume). v.volume) xs ys zip (λ x y has. has.volume))) (apart n)

-- States with the same configuration and the same statuses.

pub record HaveSame (s t : DeskState) : Type 0 where
  pub active : t.active ≡ s.active
  pub statuses : t.statuses ≡ s.statuses

group-stays : (s t : DeskState) (group : ActiveGroup) → HaveSame s t → IsGroupOf s group → IsGroupOf t group
group-stays s t group alike is = record {
  status = is.status ∙ ap (λ (rows : List StatusRow). status_in rows (targets.Group group.group.name) NotCon) (sym alike.statuses);
  volumes = is.volumes ∙ ap (λ (o : Option Configuration). length (filter (λ (v : VolumeDef). bytes_eq v.group group.group.name) (volumes_in o))) (sym alike.active);
}

stands-stays : (s t : DeskState) (groups : List ActiveGroup) (place : ℕ) (name : List ℕ) → HaveSame s t → StandsAt s groups place name → StandsAt t groups place name
stands-stays s t groups place name alike is = record {
  group = is.group;
  there = is.there;
  named = subst (λ (o : Option Configuration). find (λ (g : StorGroup). bytes_eq g.name name) (groups_in o) ≡ Some is.group.group) (sym alike.active) is.named;
}

-- a volume with another ledger
volume-follows : (s t : DeskState) (groups : List ActiveGroup) (es fs : List Extent) (before after : ActiveVolume) → HaveSame s t → HasChanged es fs before after → IsVolumeOf s groups before
    → IsLedgerOf (held_on t before.volume.volser) after.ledger → IsVolumeOf t groups after
volume-follows s t groups es fs before after alike has is ledger = record {
  status = has.status ∙ (is.status ∙ (ap (λ (rows : List StatusRow). status_in rows (targets.Volume before.volume.volser) NotCon) (sym alike.statuses)
      ∙ ap (λ (d : VolumeDef). status_in t.statuses (targets.Volume d.volser) NotCon) (sym has.volume)));
  group = subst (λ (n : ℕ). StandsAt t groups n after.volume.group) (sym has.group)
      (subst (λ (d : VolumeDef). StandsAt t groups before.group d.group) (sym has.volume) (stands-stays s t groups before.group before.volume.group alike is.group));
  capacity = has.capacity ∙ (is.capacity ∙ ap (λ (d : VolumeDef). d.tracks) (sym has.volume));
  ledger = subst (λ (d : VolumeDef). IsLedgerOf (held_on t d.volser) after.ledger) (sym has.volume) ledger;
}

groups-stay : (s t : DeskState) (groups : List ActiveGroup) → HaveSame s t → AllByRecursion (IsGroupOf s) groups → AllByRecursion (IsGroupOf t) groups
groups-stay s t [] alike all = tt
groups-stay s t (g ∷ groups) alike all = (group-stays s t g alike all.0, groups-stay s t groups alike all.1)

-- what the ones hold becomes what the others do
pub record Becomes (s t : DeskState) (es fs : List Extent) : Type 0 where
  pub same : HaveSame s t
  pub others : List ℕ → List Piece
  pub into : (v : List ℕ) (l : LedgerView) → IsLedgerOf (held_on s v) l → IsLedgerOf (pieces_on v es ++ others v) l
  pub from : (v : List ℕ) (l : LedgerView) → IsLedgerOf (pieces_on v fs ++ others v) l → IsLedgerOf (held_on t v) l

-- the running volumes stand for the state after a change
pub follow : (s t : DeskState) (es fs : List Extent) (running after : ActiveVolumes) → Becomes s t es fs → AreVolumesOf s running → after.groups.items ≡ running.groups.items
    → AllZip (HasChanged es fs) running.volumes.items after.volumes.items → AreVolumesOf t after
follow s t es fs running after becomes are groups zip =
    let same = becomes.same in
    record {
      groups_are = ap (map (λ (g : ActiveGroup). g.group)) groups ∙ (are.groups_are ∙ ap groups_in (sym same.active));
      volumes_are = map-zip (HasChanged es fs) (λ (v : ActiveVolume). v.volume) running.volumes.items after.volumes.items zip (λ x y has. has.volume) ∙ (are.volumes_are ∙ ap volumes_in (sym same.active));
      each_group = subst (AllByRecursion (IsGroupOf t)) (sym groups) (groups-stay s t running.groups.items same are.each_group);
      each_volume = subst (λ (l : List ActiveGroup). AllByRecursion (IsVolumeOf t l) after.volumes.items) (sym groups)
          (each-zip (HasChanged es fs) (IsVolumeOf s running.groups.items) (IsVolumeOf t running.groups.items) running.volumes.items after.volumes.items zip are.each_volume
          (λ x y has is. volume-follows s t running.groups.items es fs x y same has is
          (becomes.from x.volume.volser y.ledger (has.ledger (becomes.others x.volume.volser) (becomes.into x.volume.volser x.ledger is.ledger)))));
    }

-- what all data sets hold, where the extents are those of one
pub each-holds : (s : DeskState) (groups : List ActiveGroup) (es : List Extent) (volumes : List ActiveVolume) (others : List ℕ → List Piece)
    → ((v : List ℕ) (l : LedgerView) → IsLedgerOf (held_on s v) l → IsLedgerOf (pieces_on v es ++ others v) l) → AllByRecursion (IsVolumeOf s groups) volumes → AllByRecursion (HoldsAll es) volumes
each-holds s groups es [] others into all = tt
each-holds s groups es (v ∷ volumes) others into all =
    (record { others = others v.volume.volser; is = into v.volume.volser v.ledger all.0.ledger }, each-holds s groups es volumes others into all.1)
