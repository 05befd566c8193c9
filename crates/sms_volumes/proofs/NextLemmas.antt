-- The volumes of a configuration that is to become active.
use Rattle.std.proofs.Common.{◌≡◌, ◌≤◌, ◌<◌, ℕ, zero, suc, ◌+◌, Bool, true, false, cond, List, [], ◌∷◌, ◌++◌, length}
use Rattle.std.proofs.Common.{map, get_or, take, drop, refl, sym, ap, ◌∙◌, subst, arith, length-append}
use Rattle.std.specs.Prelude.{Option, None, Some, bytes_eq, filter, find, slice_get}
use Rattle.std.specs.List.{AllByRecursion, list_any}
use Rattle.std.proofs.lemmas.List.{take_more}
use Rattle.sms_construct.specs.Configuration.{Configuration, IsConfiguration}
use Rattle.sms_construct.specs.declared.status.Status.{Status}
use Rattle.sms_construct.specs.declared.status.Status.TheVariants.{NotCon}
use Rattle.sms_construct.specs.declared.storage_group.StorGroup.{StorGroup}
use Rattle.sms_construct.specs.declared.target.Target.{Target}
use Rattle.sms_construct.specs.declared.target.Target.TheVariants.{Group, Volume}
use Rattle.sms_construct.specs.declared.volume.VolumeDef.{VolumeDef}
use Rattle.sms_keeper.specs.declared.status_row.StatusRow.{StatusRow}
use Rattle.sms_keeper.specs.Tables.{is_status_of}
use Rattle.desk_law.specs.State.{DeskState}
use Rattle.desk_law.specs.Lawful.{IsLawful}
use Rattle.desk_law.specs.Statuses.{status_in, times_status}
use Rattle.desk_law.specs.Volumes.{groups_in, times_group, times_volume, volumes_in}
use Rattle.desk_law.proofs.ByteLemmas.{bytes-turned, same-bytes}
use Rattle.desk_law.proofs.PlaceLemmas.{find-each}
use Rattle.sms_volumes.specs.Holding.{AreVolumesOf, IsGroupOf, IsVolumeOf}
use Rattle.sms_volumes.specs.Inner.Making.{IsMade, next_group, status_of_group, status_of_volume}
use Rattle.sms_volumes.specs.Next.{AreNext, IsNextGroup, IsNextVolume}
use Rattle.sms_volumes.specs.Inner.Showing.{group_in}
use Rattle.sms_volumes.specs.Viewing.{running_named}
use Rattle.sms_volumes.specs.declared.active_group.ActiveGroup.{ActiveGroup}
use Rattle.sms_volumes.specs.declared.active_volume.ActiveVolume.{ActiveVolume}
use Rattle.sms_volumes.specs.declared.active_volumes.ActiveVolumes.{ActiveVolumes}

-- Lists.

count-one-at : {X : Type 0} (p : X → Bool) (x : X) (b : Bool) → p x ≡ b → length (filter p (x ∷ [])) ≡ cond b 1 0
count-one-at p x true is = rw is refl
count-one-at p x false is = rw is refl

filter-both-at : {X : Type 0} (p : X → Bool) (x : X) (a b : List X) (c : Bool) → p x ≡ c → filter p (a ++ b) ≡ filter p a ++ filter p b → filter p ((x ∷ a) ++ b) ≡ filter p (x ∷ a) ++ filter p b
filter-both-at {X = X} p x a b true is rest = rw is (ap (λ (l : List X). x ∷ l) rest)
filter-both-at p x a b false is rest = rw is rest

filter-both : {X : Type 0} (p : X → Bool) (a b : List X) → filter p (a ++ b) ≡ filter p a ++ filter p b
filter-both p [] b = refl
filter-both p (x ∷ a) b = filter-both-at p x a b _ refl (filter-both p a b)

-- one more is counted where it passes
pub count-more : {X : Type 0} (p : X → Bool) (xs : List X) (i : ℕ) (x : X) → i < length xs → x ≡ get_or xs i x → length (filter p (take (i + 1) xs)) ≡ length (filter p (take i xs)) + cond (p x) 1 0
count-more {X = X} p xs i x lt read =
    let more : take (i + 1) xs ≡ take i xs ++ x ∷ [] = take_more xs i x lt ∙ ap (λ (y : X). take i xs ++ y ∷ []) (sym read) in
    let split : length (filter p (take (i + 1) xs)) ≡ length (filter p (take i xs) ++ filter p (x ∷ [])) = ap (λ (l : List X). length (filter p l)) more ∙ ap length (filter-both p (take i xs) (x ∷ [])) in
    omega (arith, split, length-append (filter p (take i xs)) (filter p (x ∷ [])), count-one-at p x _ refl)

-- what passes at a place is found there
pub found-there : {X : Type 0} (p : X → Bool) (xs : List X) (i : ℕ) (x : X) → i < length xs → x ≡ get_or xs i x → p x ≡ true → find p (drop i xs) ≡ slice_get xs i
found-there p [] i x lt read is = absurd (omega (arith, lt))
found-there p (y ∷ xs) zero x lt read is =
    let on : p y ≡ true = ap p (sym read) ∙ is in rw on refl
found-there p (y ∷ xs) (suc i) x lt read is = found-there p xs i x (omega (arith, lt)) read is

-- past the last nothing is found
pub found-past : {X : Type 0} (p : X → Bool) (xs : List X) (i : ℕ) → length xs ≤ i → slice_get xs (length xs) ≡ find p (drop i xs)
found-past p [] zero le = refl
found-past p [] (suc i) le = refl
found-past p (x ∷ xs) zero le = absurd (omega (arith, le))
found-past p (x ∷ xs) (suc i) le = found-past p xs i (omega (arith, le))

-- The status of a target that has one.

status-there-at : (target : Target) (d e : Status) (row : StatusRow) (rows : List StatusRow) (b : Bool) → is_status_of target row ≡ b → 1 ≤ cond b 1 0 + times_status target rows
    → (1 ≤ times_status target rows → status_in rows target d ≡ status_in rows target e) → status_in (row ∷ rows) target d ≡ status_in (row ∷ rows) target e
status-there-at target d e row rows true is some rest = rw is refl
status-there-at target d e row rows false is some rest = rw is (rest (omega (arith, some)))

-- it isn't the one for a target that has none
pub status-there : (target : Target) (d e : Status) (rows : List StatusRow) → 1 ≤ times_status target rows → status_in rows target d ≡ status_in rows target e
status-there target d e [] some = absurd (omega (arith, some))
status-there target d e (row ∷ rows) some = status-there-at target d e row rows _ refl some (status-there target d e rows)

status-none-at : (target : Target) (d : Status) (row : StatusRow) (rows : List StatusRow) (b : Bool) → is_status_of target row ≡ b → cond b 1 0 + times_status target rows ≡ 0
    → (times_status target rows ≡ 0 → status_in rows target d ≡ d) → status_in (row ∷ rows) target d ≡ d
status-none-at target d row rows true is none rest = absurd (omega (arith, none))
status-none-at target d row rows false is none rest = rw is (rest (omega (arith, none)))

-- a target that has none
pub status-none : (target : Target) (d : Status) (rows : List StatusRow) → times_status target rows ≡ 0 → status_in rows target d ≡ d
status-none target d [] none = refl
status-none target d (row ∷ rows) none = status-none-at target d row rows _ refl none (status-none target d rows)

-- Whether a group or a volume is active.

group-none-at : (n : List ℕ) (g : ActiveGroup) (groups : List ActiveGroup) (b : Bool) → bytes_eq g.group.name n ≡ b
    → (group_in n groups ≡ None → times_group n (map (λ (x : ActiveGroup). x.group) groups) ≡ 0) → group_in n (g ∷ groups) ≡ None → times_group n (map (λ (x : ActiveGroup). x.group) (g ∷ groups)) ≡ 0
group-none-at n g groups true is rest none =
    let now : Some g ≡ None = rw is at none in absurd cc
group-none-at n g groups false is rest none =
    let now : group_in n groups ≡ None = rw is at none in
    let off : cond (bytes_eq g.group.name n) 1 zero ≡ zero = rw is refl in
    omega (arith, off, rest now)

group-none : (n : List ℕ) (groups : List ActiveGroup) → group_in n groups ≡ None → times_group n (map (λ (x : ActiveGroup). x.group) groups) ≡ 0
group-none n [] none = refl
group-none n (g ∷ groups) none = group-none-at n g groups _ refl (group-none n groups) none

-- what is found is there, and has the name
pub record IsThere (named : Bool) (times : ℕ) : Type 0 where
  pub same : named ≡ true
  pub some : 1 ≤ times

group-some-at : (n : List ℕ) (g : ActiveGroup) (groups : List ActiveGroup) (r : ActiveGroup) (b : Bool) → bytes_eq g.group.name n ≡ b
    → (group_in n groups ≡ Some r → IsThere (bytes_eq r.group.name n) (times_group n (map (λ (x : ActiveGroup). x.group) groups))) → group_in n (g ∷ groups) ≡ Some r
    → IsThere (bytes_eq r.group.name n) (times_group n (map (λ (x : ActiveGroup). x.group) (g ∷ groups)))
group-some-at n g groups r true is rest found =
    let now : Some g ≡ Some r = rw is at found in
    let same : g ≡ r = cc in
    let one : cond (bytes_eq g.group.name n) 1 zero ≡ suc zero = rw is refl in
    record { same = ap (λ (x : ActiveGroup). bytes_eq x.group.name n) (sym same) ∙ is; some = omega (arith, one) }
group-some-at n g groups r false is rest found =
    let now : group_in n groups ≡ Some r = rw is at found in
    let there = rest now in
    let some = there.some in
    record { same = there.same; some = omega (arith, some) }

group-some : (n : List ℕ) (groups : List ActiveGroup) (r : ActiveGroup) → group_in n groups ≡ Some r → IsThere (bytes_eq r.group.name n) (times_group n (map (λ (x : ActiveGroup). x.group) groups))
group-some n [] r found = absurd cc
group-some n (g ∷ groups) r found = group-some-at n g groups r _ refl (group-some n groups r) found

volume-none-at : (n : List ℕ) (v : ActiveVolume) (volumes : List ActiveVolume) (b : Bool) → bytes_eq v.volume.volser n ≡ b
    → (running_named n volumes ≡ None → times_volume n (map (λ (x : ActiveVolume). x.volume) volumes) ≡ 0) → running_named n (v ∷ volumes) ≡ None
    → times_volume n (map (λ (x : ActiveVolume). x.volume) (v ∷ volumes)) ≡ 0
volume-none-at n v volumes true is rest none =
    let now : Some v ≡ None = rw is at none in absurd cc
volume-none-at n v volumes false is rest none =
    let now : running_named n volumes ≡ None = rw is at none in
    let off : cond (bytes_eq v.volume.volser n) 1 zero ≡ zero = rw is refl in
    omega (arith, off, rest now)

pub volume-none : (n : List ℕ) (volumes : List ActiveVolume) → running_named n volumes ≡ None → times_volume n (map (λ (x : ActiveVolume). x.volume) volumes) ≡ 0
volume-none n [] none = refl
volume-none n (v ∷ volumes) none = volume-none-at n v volumes _ refl (volume-none n volumes) none

volume-some-at : (n : List ℕ) (v : ActiveVolume) (volumes : List ActiveVolume) (r : ActiveVolume) (b : Bool) → bytes_eq v.volume.volser n ≡ b
    → (running_named n volumes ≡ Some r → IsThere (bytes_eq r.volume.volser n) (times_volume n (map (λ (x : ActiveVolume). x.volume) volumes))) → running_named n (v ∷ volumes) ≡ Some r
    → IsThere (bytes_eq r.volume.volser n) (times_volume n (map (λ (x : ActiveVolume). x.volume) (v ∷ volumes)))
volume-some-at n v volumes r true is rest found =
    let now : Some v ≡ Some r = rw is at found in
    let same : v ≡ r = cc in
    let one : cond (bytes_eq v.volume.volser n) 1 zero ≡ suc zero = rw is refl in
    record { same = ap (λ (x : ActiveVolume). bytes_eq x.volume.volser n) (sym same) ∙ is; some = omega (arith, one) }
volume-some-at n v volumes r false is rest found =
    let now : running_named n volumes ≡ Some r = rw is at found in
    let there = rest now in
    let some = there.some in
    record { same = there.same; some = omega (arith, some) }

pub volume-some : (n : List ℕ) (volumes : List ActiveVolume) (r : ActiveVolume) → running_named n volumes ≡ Some r → IsThere (bytes_eq r.volume.volser n) (times_volume n (map (λ (x : ActiveVolume). x.volume) volumes))
volume-some n [] r found = absurd cc
volume-some n (v ∷ volumes) r found = volume-some-at n v volumes r _ refl (volume-some n volumes r) found

-- The status that a group and a volume keep.

group-keeps-at : (s : DeskState) (running : ActiveVolumes) (group : StorGroup) (found : Option ActiveGroup) → IsLawful s → AreVolumesOf s running → group_in group.name running.groups.items ≡ found
    → status_of_group group found ≡ status_in s.statuses (Group group.name) group.status
group-keeps-at s running group None lawful are found =
    let gone : times_group group.name (groups_in s.active) ≡ 0 = subst (λ (l : List StorGroup). times_group group.name l ≡ 0) are.groups_are (group-none group.name running.groups.items found) in
    sym (status-none (Group group.name) group.status s.statuses (lawful.statuses (Group group.name) ∙ gone))
group-keeps-at s running group (Some r) lawful are found =
    let there = group-some group.name running.groups.items r found in
    let some : 1 ≤ times_group group.name (groups_in s.active) = subst (λ (l : List StorGroup). 1 ≤ times_group group.name l) are.groups_are there.some in
    let rows : 1 ≤ times_status (Group group.name) s.statuses = omega (arith, some, lawful.statuses (Group group.name)) in
    let own = find-each (IsGroupOf s) (λ (x : ActiveGroup). bytes_eq x.group.name group.name) running.groups.items r are.each_group found in
    own.status ∙ (ap (λ (n : List ℕ). status_in s.statuses (Group n) NotCon) (same-bytes r.group.name group.name there.same) ∙ status-there (Group group.name) NotCon group.status s.statuses rows)

volume-keeps-at : (s : DeskState) (running : ActiveVolumes) (volume : VolumeDef) (found : Option ActiveVolume) → IsLawful s → AreVolumesOf s running → running_named volume.volser running.volumes.items ≡ found
    → status_of_volume volume found ≡ status_in s.statuses (Volume volume.volser) volume.status
volume-keeps-at s running volume None lawful are found =
    let gone : times_volume volume.volser (volumes_in s.active) ≡ 0 = subst (λ (l : List VolumeDef). times_volume volume.volser l ≡ 0) are.volumes_are (volume-none volume.volser running.volumes.items found) in
    sym (status-none (Volume volume.volser) volume.status s.statuses (lawful.statuses (Volume volume.volser) ∙ gone))
volume-keeps-at s running volume (Some r) lawful are found =
    let there = volume-some volume.volser running.volumes.items r found in
    let some : 1 ≤ times_volume volume.volser (volumes_in s.active) = subst (λ (l : List VolumeDef). 1 ≤ times_volume volume.volser l) are.volumes_are there.some in
    let rows : 1 ≤ times_status (Volume volume.volser) s.statuses = omega (arith, some, lawful.statuses (Volume volume.volser)) in
    let own = find-each (IsVolumeOf s running.groups.items) (λ (x : ActiveVolume). bytes_eq x.volume.volser volume.volser) running.volumes.items r are.each_volume found in
    own.status ∙ (ap (λ (n : List ℕ). status_in s.statuses (Volume n) NotCon) (same-bytes r.volume.volser volume.volser there.same) ∙ status-there (Volume volume.volser) NotCon volume.status s.statuses rows)

-- The configuration as it will be.

each-group-next : (s : DeskState) (running : ActiveVolumes) (config : Configuration) (groups : List StorGroup) → IsLawful s → AreVolumesOf s running
    → AllByRecursion (IsNextGroup s.statuses config) (map (next_group running.groups.items config.volumes) groups)
each-group-next s running config [] lawful are = tt
each-group-next s running config (g ∷ groups) lawful are =
    (record { status = group-keeps-at s running g _ lawful are refl; volumes = refl }, each-group-next s running config groups lawful are)

groups-mapped : (running : List ActiveGroup) (volumes : List VolumeDef) (groups : List StorGroup) → map (λ (g : ActiveGroup). g.group) (map (next_group running volumes) groups) ≡ groups
groups-mapped running volumes [] = refl
groups-mapped running volumes (g ∷ groups) = ap (λ (l : List StorGroup). g ∷ l) (groups-mapped running volumes groups)

-- a mapped list has something at a place where the list has
mapped-at : (f : StorGroup → ActiveGroup) (groups : List StorGroup) (place : ℕ) (g : StorGroup) → slice_get groups place ≡ Some g → slice_get (map f groups) place ≡ Some (f g)
mapped-at f [] place g there = absurd cc
mapped-at f (x ∷ groups) zero g there =
    let same : x ≡ g = cc in ap (λ (y : StorGroup). Some (f y)) same
mapped-at f (x ∷ groups) (suc place) g there = mapped-at f groups place g there

-- a group that a volume names is found
record HasGroup (name : List ℕ) (groups : List StorGroup) : Type 0 where
  pub group : StorGroup
  pub found : find (λ (g : StorGroup). bytes_eq g.name name) groups ≡ Some group

has-group-at : (name : List ℕ) (g : StorGroup) (groups : List StorGroup) (b c : Bool) → bytes_eq name g.name ≡ b → bytes_eq g.name name ≡ c
    → (list_any (bytes_eq name) (map (λ (x : StorGroup). x.name) groups) ≡ true → HasGroup name groups)
    → list_any (bytes_eq name) (map (λ (x : StorGroup). x.name) (g ∷ groups)) ≡ true → HasGroup name (g ∷ groups)
has-group-at name g groups b true is turned rest any = record { group = g; found = rw turned refl }
has-group-at name g groups true false is turned rest any =
    let off : true ≡ false = sym is ∙ bytes-turned g.name name turned in absurd cc
has-group-at name g groups false false is turned rest any =
    let now : list_any (bytes_eq name) (map (λ (x : StorGroup). x.name) groups) ≡ true = rw is at any in
    let there = rest now in
    record { group = there.group; found = rw turned there.found }

has-group : (name : List ℕ) (groups : List StorGroup) → list_any (bytes_eq name) (map (λ (x : StorGroup). x.name) groups) ≡ true → HasGroup name groups
has-group name [] any = absurd cc
has-group name (g ∷ groups) any = has-group-at name g groups _ _ refl refl (has-group name groups) any

made-next : (s : DeskState) (running : ActiveVolumes) (config : Configuration) (v : ActiveVolume) → IsLawful s → AreVolumesOf s running → IsMade running.volumes.items config.groups v
    → list_any (bytes_eq v.volume.group) (map (λ (x : StorGroup). x.name) config.groups) ≡ true
    → IsNextVolume s.statuses config (map (next_group running.groups.items config.volumes) config.groups) v
made-next s running config v lawful are made any =
    let f = next_group running.groups.items config.volumes in
    let has = has-group v.volume.group config.groups any in
    record {
      status = made.status ∙ volume-keeps-at s running v.volume _ lawful are refl;
      group = record { group = f has.group; there = mapped-at f config.groups v.group has.group (made.group ∙ has.found); named = has.found };
      capacity = made.capacity;
      free = made.free;
    }

each-made-next : (s : DeskState) (running : ActiveVolumes) (config : Configuration) (volumes : List ActiveVolume) → IsLawful s → AreVolumesOf s running
    → AllByRecursion (IsMade running.volumes.items config.groups) volumes
    → AllByRecursion (λ (d : VolumeDef). list_any (bytes_eq d.group) (map (λ (x : StorGroup). x.name) config.groups) ≡ true) (map (λ (v : ActiveVolume). v.volume) volumes)
    → AllByRecursion (IsNextVolume s.statuses config (map (next_group running.groups.items config.volumes) config.groups)) volumes
each-made-next s running config [] lawful are made any = tt
each-made-next s running config (v ∷ volumes) lawful are made any =
    (made-next s running config v lawful are made.0 any.0, each-made-next s running config volumes lawful are made.1 any.1)

pub all-next : (s : DeskState) (running next : ActiveVolumes) (config : Configuration) → IsLawful s → AreVolumesOf s running → IsConfiguration config
    → next.groups.items ≡ map (next_group running.groups.items config.volumes) config.groups → map (λ (v : ActiveVolume). v.volume) next.volumes.items ≡ config.volumes
    → AllByRecursion (IsMade running.volumes.items config.groups) next.volumes.items → AreNext s.statuses config next
all-next s running next config lawful are is groups volumes made = record {
  groups_are = ap (map (λ (g : ActiveGroup). g.group)) groups ∙ groups-mapped running.groups.items config.volumes config.groups;
  volumes_are = volumes;
  each_group = subst (AllByRecursion (IsNextGroup s.statuses config)) (sym groups) (each-group-next s running config config.groups lawful are);
  each_volume = subst (λ (l : List ActiveGroup). AllByRecursion (IsNextVolume s.statuses config l) next.volumes.items) (sym groups)
      (each-made-next s running config next.volumes.items lawful are made
      (subst (AllByRecursion (λ (d : VolumeDef). list_any (bytes_eq d.group) (map (λ (x : StorGroup). x.name) config.groups) ≡ true)) (sym volumes) is.grouped));
}
