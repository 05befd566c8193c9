-- The running volumes stand for the state again when a status was varied.
use Rattle.std.proofs.Common.{◌≡◌, ◌≤◌, ℕ, zero, suc, ◌+◌, Bool, true, false, cond, List, [], ◌∷◌, map, refl, sym, ap}
use Rattle.std.proofs.Common.{◌∙◌, subst, arith}
use Rattle.std.specs.Prelude.{Option, Some, bytes_eq, slice_get, find}
use Rattle.std.specs.List.{AllByRecursion}
use Rattle.sms_construct.specs.Configuration.{Configuration}
use Rattle.sms_construct.specs.declared.status.Status.{Status}
use Rattle.sms_construct.specs.declared.status.Status.TheVariants.{NotCon}
use Rattle.sms_construct.specs.declared.storage_group.StorGroup.{StorGroup}
use Rattle.sms_construct.specs.declared.target.Target.{Target}
use Rattle.sms_construct.specs.declared.target.Target.TheVariants.{Group, Volume, Set}
use Rattle.sms_construct.specs.declared.volume.VolumeDef.{VolumeDef}
use Rattle.sms_keeper.specs.declared.status_row.StatusRow.{StatusRow}
use Rattle.sms_keeper.specs.Tables.{is_status_of, row_with, same_target}
use Rattle.desk_law.specs.State.{DeskState, with_status}
use Rattle.desk_law.specs.Statuses.{status_in, times_status}
use Rattle.desk_law.specs.Lawful.{IsLawful}
use Rattle.desk_law.specs.Volumes.{groups_in, times_group, times_volume, volumes_in}
use Rattle.desk_law.proofs.ByteLemmas.{bytes-self, same-bytes}
use Rattle.sms_volumes.specs.Holding.{AreVolumesOf, IsGroupOf, IsVolumeOf, StandsAt}
use Rattle.sms_volumes.specs.Inner.Varied.{varied_group, varied_volume}
use Rattle.sms_volumes.specs.declared.active_group.ActiveGroup.{ActiveGroup}
use Rattle.sms_volumes.specs.declared.active_volume.ActiveVolume.{ActiveVolume}
use Rattle.sms_volumes.specs.declared.active_volumes.ActiveVolumes.{ActiveVolumes}

varied-same-at : (target : Target) (status d : Status) (row : StatusRow) (rows : List StatusRow) (b : Bool) → is_status_of target row ≡ b → 1 ≤ cond b 1 0 + times_status target rows
    → (1 ≤ times_status target rows → status_in (map (row_with target status) rows) target d ≡ status) → status_in (map (row_with target status) (row ∷ rows)) target d ≡ status
varied-same-at target status d row rows true is some rest = rw is refl
varied-same-at target status d row rows false is some rest = rw is (rest (omega (arith, some)))

-- the target has the status now, where it had one
pub varied-same : (target : Target) (status d : Status) (rows : List StatusRow) → 1 ≤ times_status target rows → status_in (map (row_with target status) rows) target d ≡ status
varied-same target status d [] some = absurd (omega (arith, some))
varied-same target status d (row ∷ rows) some = varied-same-at target status d row rows _ refl some (varied-same target status d rows)

varied-other-at : (target other : Target) (status d : Status) (row : StatusRow) (rows : List StatusRow) (b : Bool) → is_status_of other row ≡ b → (is_status_of other row ≡ true → is_status_of target row ≡ false)
    → status_in (map (row_with target status) rows) other d ≡ status_in rows other d → status_in (map (row_with target status) (row ∷ rows)) other d ≡ status_in (row ∷ rows) other d
varied-other-at target other status d row rows true is apart rest =
    let off = apart is in rw (is, off) refl
varied-other-at target other status d row rows false is apart rest = rw is rest

-- another target has the status that it had
pub varied-other : (target other : Target) (status d : Status) (rows : List StatusRow) → ((row : StatusRow) → is_status_of other row ≡ true → is_status_of target row ≡ false)
    → status_in (map (row_with target status) rows) other d ≡ status_in rows other d
varied-other target other status d [] apart = refl
varied-other target other status d (row ∷ rows) apart = varied-other-at target other status d row rows _ refl (apart row) (varied-other target other status d rows apart)

names-apart : (g n m : List ℕ) → bytes_eq g m ≡ true → bytes_eq m n ≡ false → bytes_eq g n ≡ false
names-apart g n m is off = ap (λ x. bytes_eq x n) (same-bytes g m is) ∙ off

groups-apart-at : (n m : List ℕ) (target : Target) → bytes_eq m n ≡ false → same_target target (Group m) ≡ true → same_target target (Group n) ≡ false
groups-apart-at n m (Group g) off is = names-apart g n m is off
groups-apart-at n m (Volume v) off is = refl
groups-apart-at n m (Set d) off is = refl

pub groups-apart : (n m : List ℕ) → bytes_eq m n ≡ false → (row : StatusRow) → is_status_of (Group m) row ≡ true → is_status_of (Group n) row ≡ false
groups-apart n m off row is = groups-apart-at n m row.target off is

volumes-apart-at : (n m : List ℕ) (target : Target) → bytes_eq m n ≡ false → same_target target (Volume m) ≡ true → same_target target (Volume n) ≡ false
volumes-apart-at n m (Group g) off is = refl
volumes-apart-at n m (Volume v) off is = names-apart v n m is off
volumes-apart-at n m (Set d) off is = refl

pub volumes-apart : (n m : List ℕ) → bytes_eq m n ≡ false → (row : StatusRow) → is_status_of (Volume m) row ≡ true → is_status_of (Volume n) row ≡ false
volumes-apart n m off row is = volumes-apart-at n m row.target off is

volume-no-group-at : (n m : List ℕ) (target : Target) → same_target target (Volume m) ≡ true → same_target target (Group n) ≡ false
volume-no-group-at n m (Group g) is = absurd cc
volume-no-group-at n m (Volume v) is = refl
volume-no-group-at n m (Set d) is = refl

pub volume-no-group : (n m : List ℕ) (row : StatusRow) → is_status_of (Volume m) row ≡ true → is_status_of (Group n) row ≡ false
volume-no-group n m row is = volume-no-group-at n m row.target is

group-no-volume-at : (n m : List ℕ) (target : Target) → same_target target (Group m) ≡ true → same_target target (Volume n) ≡ false
group-no-volume-at n m (Group g) is = refl
group-no-volume-at n m (Volume v) is = absurd cc
group-no-volume-at n m (Set d) is = refl

pub group-no-volume : (n m : List ℕ) (row : StatusRow) → is_status_of (Group m) row ≡ true → is_status_of (Volume n) row ≡ false
group-no-volume n m row is = group-no-volume-at n m row.target is

group-no-set-at : (n m : List ℕ) (target : Target) → same_target target (Group m) ≡ true → same_target target (Set n) ≡ false
group-no-set-at n m (Group g) is = refl
group-no-set-at n m (Volume v) is = absurd cc
group-no-set-at n m (Set d) is = absurd cc

pub group-no-set : (n m : List ℕ) (row : StatusRow) → is_status_of (Group m) row ≡ true → is_status_of (Set n) row ≡ false
group-no-set n m row is = group-no-set-at n m row.target is

volume-no-set-at : (n m : List ℕ) (target : Target) → same_target target (Volume m) ≡ true → same_target target (Set n) ≡ false
volume-no-set-at n m (Group g) is = absurd cc
volume-no-set-at n m (Volume v) is = refl
volume-no-set-at n m (Set d) is = absurd cc

pub volume-no-set : (n m : List ℕ) (row : StatusRow) → is_status_of (Volume m) row ≡ true → is_status_of (Set n) row ≡ false
volume-no-set n m row is = volume-no-set-at n m row.target is

-- Each storage group and volume is there.

each-weaker : {X : Type 0} (P Q : X → Type 0) (xs : List X) → ((x : X) → P x → Q x) → AllByRecursion P xs → AllByRecursion Q xs
each-weaker P Q [] step all = tt
each-weaker P Q (x ∷ xs) step all = (step x all.0, each-weaker P Q xs step all.1)

groups-there : (groups : List ActiveGroup) → AllByRecursion (λ (g : ActiveGroup). 1 ≤ times_group g.group.name (map (λ (x : ActiveGroup). x.group) groups)) groups
groups-there [] = tt
groups-there (g ∷ groups) =
    let one : cond (bytes_eq g.group.name g.group.name) 1 zero ≡ suc zero = rw (bytes-self g.group.name) refl in (
      omega (arith, one),
      each-weaker (λ (x : ActiveGroup). 1 ≤ times_group x.group.name (map (λ (y : ActiveGroup). y.group) groups)) (λ (x : ActiveGroup). 1 ≤ times_group x.group.name (map (λ (y : ActiveGroup). y.group) (g ∷ groups))) groups
          (λ x here. omega (arith, here)) (groups-there groups),
    )

volumes-there : (volumes : List ActiveVolume) → AllByRecursion (λ (v : ActiveVolume). 1 ≤ times_volume v.volume.volser (map (λ (x : ActiveVolume). x.volume) volumes)) volumes
volumes-there [] = tt
volumes-there (v ∷ volumes) =
    let one : cond (bytes_eq v.volume.volser v.volume.volser) 1 zero ≡ suc zero = rw (bytes-self v.volume.volser) refl in (
      omega (arith, one),
      each-weaker (λ (x : ActiveVolume). 1 ≤ times_volume x.volume.volser (map (λ (y : ActiveVolume). y.volume) volumes)) (λ (x : ActiveVolume). 1 ≤ times_volume x.volume.volser (map (λ (y : ActiveVolume). y.volume) (v ∷ volumes))) volumes
          (λ x here. omega (arith, here)) (volumes-there volumes),
    )

-- The group of a name is varied.

group-varied : (s : DeskState) (name : List ℕ) (status : Status) (g : ActiveGroup) (b : Bool) → bytes_eq g.group.name name ≡ b → IsLawful s → IsGroupOf s g → 1 ≤ times_group g.group.name (groups_in s.active)
    → IsGroupOf (with_status s (Group name) status) (varied_group name status g)
group-varied s name status g true is lawful ours there =
    let rows : 1 ≤ times_status (Group g.group.name) s.statuses = omega (arith, there, lawful.statuses (Group g.group.name)) in
    let same : g.group.name ≡ name = same-bytes g.group.name name is in
    record {
      status = rw is (sym (subst (λ n. status_in (map (row_with (Group n) status) s.statuses) (Group g.group.name) NotCon ≡ status) same (varied-same (Group g.group.name) status NotCon s.statuses rows)));
      volumes = ours.volumes;
    }
group-varied s name status g false is lawful ours there = record {
  status = rw is (ours.status ∙ sym (varied-other (Group name) (Group g.group.name) status NotCon s.statuses (groups-apart name g.group.name is)));
  volumes = ours.volumes;
}

mapped-there : (f : ActiveGroup → ActiveGroup) (groups : List ActiveGroup) (place : ℕ) (g : ActiveGroup) → slice_get groups place ≡ Some g → slice_get (map f groups) place ≡ Some (f g)
mapped-there f [] place g there = absurd cc
mapped-there f (x ∷ groups) zero g there =
    let same : x ≡ g = cc in ap (λ (y : ActiveGroup). Some (f y)) same
mapped-there f (x ∷ groups) (suc place) g there = mapped-there f groups place g there

stands-mapped : (s t : DeskState) (f : ActiveGroup → ActiveGroup) (groups : List ActiveGroup) (place : ℕ) (name : List ℕ) → t.active ≡ s.active → ((g : ActiveGroup) → (f g).group ≡ g.group)
    → StandsAt s groups place name → StandsAt t (map f groups) place name
stands-mapped s t f groups place name active same is = record {
  group = f is.group;
  there = mapped-there f groups place is.group is.there;
  named = subst (λ (o : Option Configuration). find (λ (g : StorGroup). bytes_eq g.name name) (groups_in o) ≡ Some (f is.group).group) (sym active) (is.named ∙ ap Some (sym (same is.group)));
}

pub volume-under : (s : DeskState) (target : Target) (status : Status) (f : ActiveGroup → ActiveGroup) (groups : List ActiveGroup) (v : ActiveVolume)
    → ((row : StatusRow) → is_status_of (Volume v.volume.volser) row ≡ true → is_status_of target row ≡ false) → ((g : ActiveGroup) → (f g).group ≡ g.group)
    → IsVolumeOf s groups v → IsVolumeOf (with_status s target status) (map f groups) v
volume-under s target status f groups v apart same is = record {
  status = is.status ∙ sym (varied-other target (Volume v.volume.volser) status NotCon s.statuses apart);
  group = stands-mapped s (with_status s target status) f groups v.group v.volume.group refl same is.group;
  capacity = is.capacity;
  ledger = is.ledger;
}

groups-varied : (s : DeskState) (name : List ℕ) (status : Status) (groups : List ActiveGroup) → IsLawful s → AllByRecursion (IsGroupOf s) groups
    → AllByRecursion (λ (g : ActiveGroup). 1 ≤ times_group g.group.name (groups_in s.active)) groups → AllByRecursion (IsGroupOf (with_status s (Group name) status)) (map (varied_group name status) groups)
groups-varied s name status [] lawful all there = tt
groups-varied s name status (g ∷ groups) lawful all there = (group-varied s name status g _ refl lawful all.0 there.0, groups-varied s name status groups lawful all.1 there.1)

volumes-under : (s : DeskState) (target : Target) (status : Status) (f : ActiveGroup → ActiveGroup) (groups : List ActiveGroup) (volumes : List ActiveVolume)
    → ((volser : List ℕ) (row : StatusRow) → is_status_of (Volume volser) row ≡ true → is_status_of target row ≡ false) → ((g : ActiveGroup) → (f g).group ≡ g.group)
    → AllByRecursion (IsVolumeOf s groups) volumes → AllByRecursion (IsVolumeOf (with_status s target status) (map f groups)) volumes
volumes-under s target status f groups [] apart same all = tt
volumes-under s target status f groups (v ∷ volumes) apart same all =
    (volume-under s target status f groups v (apart v.volume.volser) same all.0, volumes-under s target status f groups volumes apart same all.1)

map-map : (f : ActiveGroup → ActiveGroup) (groups : List ActiveGroup) → ((g : ActiveGroup) → (f g).group ≡ g.group) → map (λ (g : ActiveGroup). g.group) (map f groups) ≡ map (λ (g : ActiveGroup). g.group) groups
map-map f [] same = refl
map-map f (g ∷ groups) same =
    let head = same g in let rest = map-map f groups same in rw (head, rest) refl

-- a storage group is varied
pub all-group-varied : (s : DeskState) (name : List ℕ) (status : Status) (running after : ActiveVolumes) → IsLawful s → AreVolumesOf s running → after.groups.items ≡ map (varied_group name status) running.groups.items
    → after.volumes.items ≡ running.volumes.items → AreVolumesOf (with_status s (Group name) status) after
all-group-varied s name status running after lawful are groups volumes =
    let t = with_status s (Group name) status in
    let there : AllByRecursion (λ (g : ActiveGroup). 1 ≤ times_group g.group.name (groups_in s.active)) running.groups.items =
    subst (λ (l : List StorGroup). AllByRecursion (λ (g : ActiveGroup). 1 ≤ times_group g.group.name l) running.groups.items) are.groups_are (groups-there running.groups.items) in
    record {
      groups_are = ap (map (λ (g : ActiveGroup). g.group)) groups ∙ (map-map (varied_group name status) running.groups.items (λ g. refl) ∙ are.groups_are);
      volumes_are = ap (map (λ (v : ActiveVolume). v.volume)) volumes ∙ are.volumes_are;
      each_group = subst (AllByRecursion (IsGroupOf t)) (sym groups) (groups-varied s name status running.groups.items lawful are.each_group there);
      each_volume = subst (λ (l : List ActiveGroup). AllByRecursion (IsVolumeOf t l) after.volumes.items) (sym groups) (subst (AllByRecursion (IsVolumeOf t (map (varied_group name status) running.groups.items))) (sym volumes)
          (volumes-under s (Group name) status (varied_group name status) running.groups.items running.volumes.items (λ n. volume-no-group name n) (λ g. refl) are.each_volume));
    }

-- The volume of a serial is varied.

groups-under : (s : DeskState) (target : Target) (status : Status) (groups : List ActiveGroup) → ((name : List ℕ) (row : StatusRow) → is_status_of (Group name) row ≡ true → is_status_of target row ≡ false)
    → AllByRecursion (IsGroupOf s) groups → AllByRecursion (IsGroupOf (with_status s target status)) groups
groups-under s target status [] apart all = tt
groups-under s target status (g ∷ groups) apart all = (
  record { status = all.0.status ∙ sym (varied-other target (Group g.group.name) status NotCon s.statuses (apart g.group.name)); volumes = all.0.volumes },
  groups-under s target status groups apart all.1,
)

volume-varied : (s : DeskState) (volser : List ℕ) (status : Status) (groups : List ActiveGroup) (v : ActiveVolume) (b : Bool) → bytes_eq v.volume.volser volser ≡ b → IsLawful s → IsVolumeOf s groups v
    → 1 ≤ times_volume v.volume.volser (volumes_in s.active) → IsVolumeOf (with_status s (Volume volser) status) groups (varied_volume volser status v)
volume-varied s volser status groups v true is lawful ours there =
    let rows : 1 ≤ times_status (Volume v.volume.volser) s.statuses = omega (arith, there, lawful.statuses (Volume v.volume.volser)) in
    let same : v.volume.volser ≡ volser = same-bytes v.volume.volser volser is in
    let at = ours.group in
    record {
      status = rw is (sym (subst (λ n. status_in (map (row_with (Volume n) status) s.statuses) (Volume v.volume.volser) NotCon ≡ status) same (varied-same (Volume v.volume.volser) status NotCon s.statuses rows)));
      group = record { group = at.group; there = at.there; named = at.named };
      capacity = ours.capacity;
      ledger = ours.ledger;
    }
volume-varied s volser status groups v false is lawful ours there =
    let at = ours.group in
    record {
      status = rw is (ours.status ∙ sym (varied-other (Volume volser) (Volume v.volume.volser) status NotCon s.statuses (volumes-apart volser v.volume.volser is)));
      group = record { group = at.group; there = at.there; named = at.named };
      capacity = ours.capacity;
      ledger = ours.ledger;
    }

volumes-varied : (s : DeskState) (volser : List ℕ) (status : Status) (groups : List ActiveGroup) (volumes : List ActiveVolume) → IsLawful s → AllByRecursion (IsVolumeOf s groups) volumes
    → AllByRecursion (λ (v : ActiveVolume). 1 ≤ times_volume v.volume.volser (volumes_in s.active)) volumes → AllByRecursion (IsVolumeOf (with_status s (Volume volser) status) groups) (map (varied_volume volser status) volumes)
volumes-varied s volser status groups [] lawful all there = tt
volumes-varied s volser status groups (v ∷ volumes) lawful all there =
    (volume-varied s volser status groups v _ refl lawful all.0 there.0, volumes-varied s volser status groups volumes lawful all.1 there.1)

volumes-map : (volser : List ℕ) (status : Status) (volumes : List ActiveVolume) → map (λ (v : ActiveVolume). v.volume) (map (varied_volume volser status) volumes) ≡ map (λ (v : ActiveVolume). v.volume) volumes
volumes-map volser status [] = refl
volumes-map volser status (v ∷ volumes) = ap (λ (l : List VolumeDef). v.volume ∷ l) (volumes-map volser status volumes)

pub all-volume-varied : (s : DeskState) (volser : List ℕ) (status : Status) (running after : ActiveVolumes) → IsLawful s → AreVolumesOf s running → after.groups.items ≡ running.groups.items
    → after.volumes.items ≡ map (varied_volume volser status) running.volumes.items → AreVolumesOf (with_status s (Volume volser) status) after
all-volume-varied s volser status running after lawful are groups volumes =
    let t = with_status s (Volume volser) status in
    let there : AllByRecursion (λ (v : ActiveVolume). 1 ≤ times_volume v.volume.volser (volumes_in s.active)) running.volumes.items =
    subst (λ (l : List VolumeDef). AllByRecursion (λ (v : ActiveVolume). 1 ≤ times_volume v.volume.volser l) running.volumes.items) are.volumes_are (volumes-there running.volumes.items) in
    record {
      groups_are = ap (map (λ (g : ActiveGroup). g.group)) groups ∙ are.groups_are;
      volumes_are = ap (map (λ (v : ActiveVolume). v.volume)) volumes ∙ (volumes-map volser status running.volumes.items ∙ are.volumes_are);
      each_group = subst (AllByRecursion (IsGroupOf t)) (sym groups) (groups-under s (Volume volser) status running.groups.items (λ n. group-no-volume volser n) are.each_group);
      each_volume = subst (λ (l : List ActiveGroup). AllByRecursion (IsVolumeOf t l) after.volumes.items) (sym groups) (subst (AllByRecursion (IsVolumeOf t running.groups.items)) (sym volumes)
          (volumes-varied s volser status running.groups.items running.volumes.items lawful are.each_volume there));
    }

map-same : (groups : List ActiveGroup) → map (λ (g : ActiveGroup). g) groups ≡ groups
map-same [] = refl
map-same (g ∷ groups) = ap (λ (l : List ActiveGroup). g ∷ l) (map-same groups)

-- a data set has no status
pub all-set-varied : (s : DeskState) (dsn : List ℕ) (status : Status) (running : ActiveVolumes) → AreVolumesOf s running → AreVolumesOf (with_status s (Set dsn) status) running
all-set-varied s dsn status running are =
    let t = with_status s (Set dsn) status in
    record {
      groups_are = are.groups_are;
      volumes_are = are.volumes_are;
      each_group = groups-under s (Set dsn) status running.groups.items (λ n. group-no-set dsn n) are.each_group;
      each_volume = subst (λ (l : List ActiveGroup). AllByRecursion (IsVolumeOf t l) running.volumes.items) (map-same running.groups.items)
          (volumes-under s (Set dsn) status (λ (g : ActiveGroup). g) running.groups.items running.volumes.items (λ n. volume-no-set dsn n) (λ g. refl) are.each_volume);
    }
