-- What is shown is what the state has.
use Rattle.std.proofs.Common.{◌≡◌, ◌<◌, ℕ, zero, suc, ◌+◌, Bool, true, false, cond, List, [], ◌∷◌, ◌++◌, length, map}
use Rattle.std.proofs.Common.{get_or, take, refl, sym, ap, ◌∙◌, arith}
use Rattle.std.specs.Prelude.{Option, None, Some, MatchOption, is_some, nat_eq, not, bytes_eq, filter, find, option_map}
use Rattle.std.specs.Prelude.{slice_get, sum_by}
use Rattle.std.specs.Borrow.{Bor}
use Rattle.std.specs.Option.{option_copied}
use Rattle.std.specs.List.{AllByRecursion}
use Rattle.std.proofs.lemmas.Bool.Decides.{nat_tests}
use Rattle.std.proofs.lemmas.List.{take_more}
use Rattle.std.proofs.lemmas.List.Sums.{sum_by-cons, sum_by-append}
use Rattle.sms_construct.specs.declared.storage_group.StorGroup.{StorGroup}
use Rattle.sms_construct.specs.declared.volume.VolumeDef.{VolumeDef}
use Rattle.track_ledger.specs.Extents.{tracks_held}
use Rattle.desk_law.specs.State.{DeskState}
use Rattle.desk_law.specs.Display.{shown_volume, view_of_group}
use Rattle.desk_law.specs.Extents.{held_on}
use Rattle.desk_law.specs.Volumes.{free_on, group_named, groups_in, times_group, times_volume, volume_named, volumes_in}
use Rattle.desk_law.specs.Volumes.{volumes_of_group}
use Rattle.desk_law.proofs.PlaceLemmas.{each-at, find-each}
use Rattle.sms_volumes.specs.Holding.{AreVolumesOf, IsGroupOf, IsVolumeOf}
use Rattle.sms_volumes.specs.Inner.Showing.{capacity_in, free_in, group_in, running_free, running_group, running_in}
use Rattle.sms_volumes.specs.Inner.Showing.{running_row}
use Rattle.sms_volumes.specs.Viewing.{running_named}
use Rattle.sms_volumes.specs.declared.active_group.ActiveGroup.{ActiveGroup}
use Rattle.sms_volumes.specs.declared.active_volume.ActiveVolume.{ActiveVolume}
use Rattle.sms_volumes.specs.declared.active_volumes.ActiveVolumes.{ActiveVolumes}
use Rattle.sms_volumes.proofs.HeldLemmas.{ledger-sum}

-- One volume.

pub free-is : (s : DeskState) (groups : List ActiveGroup) (v : ActiveVolume) → IsVolumeOf s groups v → running_free v ≡ free_on s v.volume
free-is s groups v is =
    let sum : tracks_held v.ledger.gaps + tracks_held (held_on s v.volume.volser) ≡ v.volume.tracks = ledger-sum (held_on s v.volume.volser) v.ledger is.ledger ∙ is.capacity in
    omega (arith, sum)

pub row-is : (s : DeskState) (groups : List ActiveGroup) (v : ActiveVolume) → IsVolumeOf s groups v → running_row v ≡ shown_volume s v.volume
row-is s groups v is =
    let free = free-is s groups v is in
    rw (is.status, free, is.ledger.extents) refl

rows-of : (s : DeskState) (groups : List ActiveGroup) (volumes : List ActiveVolume) → AllByRecursion (IsVolumeOf s groups) volumes
    → map running_row volumes ≡ map (shown_volume s) (map (λ (v : ActiveVolume). v.volume) volumes)
rows-of s groups [] all = refl
rows-of s groups (v ∷ volumes) all =
    let head = row-is s groups v all.0 in let rest = rows-of s groups volumes all.1 in rw (head, rest) refl

pub rows-are : (s : DeskState) (running : ActiveVolumes) → AreVolumesOf s running → map running_row running.volumes.items ≡ map (shown_volume s) (volumes_in s.active)
rows-are s running are = rows-of s running.groups.items running.volumes.items are.each_volume ∙ ap (map (shown_volume s)) are.volumes_are

-- A volume by its serial.

found-map-at : (volser : List ℕ) (v : ActiveVolume) (volumes : List ActiveVolume) (b : Bool) → bytes_eq v.volume.volser volser ≡ b
    → option_map (λ (x : ActiveVolume). x.volume) (running_named volser volumes) ≡ find (λ (d : VolumeDef). bytes_eq d.volser volser) (map (λ (x : ActiveVolume). x.volume) volumes)
    → option_map (λ (x : ActiveVolume). x.volume) (running_named volser (v ∷ volumes)) ≡ find (λ (d : VolumeDef). bytes_eq d.volser volser) (map (λ (x : ActiveVolume). x.volume) (v ∷ volumes))
found-map-at volser v volumes true is rest = rw is refl
found-map-at volser v volumes false is rest = rw is rest

found-map : (volser : List ℕ) (volumes : List ActiveVolume)
    → option_map (λ (x : ActiveVolume). x.volume) (running_named volser volumes) ≡ find (λ (d : VolumeDef). bytes_eq d.volser volser) (map (λ (x : ActiveVolume). x.volume) volumes)
found-map volser [] = refl
found-map volser (v ∷ volumes) = found-map-at volser v volumes _ refl (found-map volser volumes)

pub named-is : (s : DeskState) (running : ActiveVolumes) (volser : List ℕ) → AreVolumesOf s running → volume_named s volser ≡ option_map (λ (x : ActiveVolume). x.volume) (running_named volser running.volumes.items)
named-is s running volser are = sym (found-map volser running.volumes.items ∙ ap (find (λ (d : VolumeDef). bytes_eq d.volser volser)) are.volumes_are)

pub none-shown : (s : DeskState) (running : ActiveVolumes) (volser : List ℕ) → AreVolumesOf s running → running_named volser running.volumes.items ≡ None → None ≡ option_map (shown_volume s) (volume_named s volser)
none-shown s running volser are none =
    sym (ap (option_map (shown_volume s)) (named-is s running volser are ∙ ap (option_map (λ (x : ActiveVolume). x.volume)) none))

pub one-shown : (s : DeskState) (running : ActiveVolumes) (volser : List ℕ) (place : ℕ) (v : ActiveVolume) → AreVolumesOf s running → running_named volser running.volumes.items ≡ slice_get running.volumes.items place
    → slice_get running.volumes.items place ≡ Some v → Some (running_row v) ≡ option_map (shown_volume s) (volume_named s volser)
one-shown s running volser place v are found there =
    let own = each-at (IsVolumeOf s running.groups.items) running.volumes.items place v are.each_volume there in
    ap Some (row-is s running.groups.items v own) ∙ sym (ap (option_map (shown_volume s)) (named-is s running volser are ∙ ap (option_map (λ (x : ActiveVolume). x.volume)) (found ∙ there)))

-- The volumes of a group.

in-one-at : (name : List ℕ) (f : ActiveVolume → ℕ) (v : ActiveVolume) (b : Bool) → bytes_eq v.volume.group name ≡ b → sum_by f (running_in name (v ∷ [])) ≡ cond b (f v) 0
in-one-at name f v true is = rw is (omega arith)
in-one-at name f v false is = rw is refl

in-append-at : (name : List ℕ) (v : ActiveVolume) (a b : List ActiveVolume) (c : Bool) → bytes_eq v.volume.group name ≡ c → running_in name (a ++ b) ≡ running_in name a ++ running_in name b
    → running_in name ((v ∷ a) ++ b) ≡ running_in name (v ∷ a) ++ running_in name b
in-append-at name v a b true is rest = rw is (ap (λ (l : List ActiveVolume). v ∷ l) rest)
in-append-at name v a b false is rest = rw is rest

in-append : (name : List ℕ) (a b : List ActiveVolume) → running_in name (a ++ b) ≡ running_in name a ++ running_in name b
in-append name [] b = refl
in-append name (v ∷ a) b = in-append-at name v a b _ refl (in-append name a b)

-- one volume more
pub in-more : (name : List ℕ) (f : ActiveVolume → ℕ) (volumes : List ActiveVolume) (i : ℕ) (v : ActiveVolume) → i < length volumes → v ≡ get_or volumes i v
    → sum_by f (running_in name (take (i + 1) volumes)) ≡ sum_by f (running_in name (take i volumes)) + cond (bytes_eq v.volume.group name) (f v) 0
in-more name f volumes i v lt read =
    let more : take (i + 1) volumes ≡ take i volumes ++ v ∷ [] = take_more volumes i v lt ∙ ap (λ (x : ActiveVolume). take i volumes ++ x ∷ []) (sym read) in
    let sum : sum_by f (running_in name (take (i + 1) volumes)) ≡ sum_by f (running_in name (take i volumes)) + sum_by f (running_in name (v ∷ [])) =
    ap (λ (l : List ActiveVolume). sum_by f (running_in name l)) more ∙ (ap (sum_by f) (in-append name (take i volumes) (v ∷ [])) ∙ sum_by-append f (running_in name (take i volumes)) (running_in name (v ∷ []))) in
    omega (arith, sum, in-one-at name f v _ refl)

sum-in-at : (s : DeskState) (name : List ℕ) (f : ActiveVolume → ℕ) (g : VolumeDef → ℕ) (v : ActiveVolume) (volumes : List ActiveVolume) (b : Bool) → bytes_eq v.volume.group name ≡ b → f v ≡ g v.volume
    → sum_by f (running_in name volumes) ≡ sum_by g (filter (λ (d : VolumeDef). bytes_eq d.group name) (map (λ (x : ActiveVolume). x.volume) volumes))
    → sum_by f (running_in name (v ∷ volumes)) ≡ sum_by g (filter (λ (d : VolumeDef). bytes_eq d.group name) (map (λ (x : ActiveVolume). x.volume) (v ∷ volumes)))
sum-in-at s name f g v volumes true is here rest =
    rw is (omega (arith, here, rest, sum_by-cons f v (running_in name volumes), sum_by-cons g v.volume (filter (λ (d : VolumeDef). bytes_eq d.group name) (map (λ (x : ActiveVolume). x.volume) volumes))))
sum-in-at s name f g v volumes false is here rest = rw is rest

sum-in : (s : DeskState) (groups : List ActiveGroup) (name : List ℕ) (f : ActiveVolume → ℕ) (g : VolumeDef → ℕ) (volumes : List ActiveVolume) → ((v : ActiveVolume) → IsVolumeOf s groups v → f v ≡ g v.volume)
    → AllByRecursion (IsVolumeOf s groups) volumes → sum_by f (running_in name volumes) ≡ sum_by g (filter (λ (d : VolumeDef). bytes_eq d.group name) (map (λ (x : ActiveVolume). x.volume) volumes))
sum-in s groups name f g [] step all = refl
sum-in s groups name f g (v ∷ volumes) step all = sum-in-at s name f g v volumes _ refl (step v all.0) (sum-in s groups name f g volumes step all.1)

pub capacity-is : (s : DeskState) (running : ActiveVolumes) (name : List ℕ) → AreVolumesOf s running → capacity_in name running.volumes.items ≡ sum_by (λ (d : VolumeDef). d.tracks) (volumes_of_group s name)
capacity-is s running name are =
    sum-in s running.groups.items name (λ (v : ActiveVolume). v.volume.tracks) (λ (d : VolumeDef). d.tracks) running.volumes.items (λ v is. refl) are.each_volume
    ∙ ap (λ (l : List VolumeDef). sum_by (λ (d : VolumeDef). d.tracks) (filter (λ (d : VolumeDef). bytes_eq d.group name) l)) are.volumes_are

pub free-in-is : (s : DeskState) (running : ActiveVolumes) (name : List ℕ) → AreVolumesOf s running → free_in name running.volumes.items ≡ sum_by (free_on s) (volumes_of_group s name)
free-in-is s running name are =
    sum-in s running.groups.items name running_free (free_on s) running.volumes.items (λ v is. free-is s running.groups.items v is) are.each_volume
    ∙ ap (λ (l : List VolumeDef). sum_by (free_on s) (filter (λ (d : VolumeDef). bytes_eq d.group name) l)) are.volumes_are

-- A group by its name.

group-map-at : (name : List ℕ) (g : ActiveGroup) (groups : List ActiveGroup) (b : Bool) → bytes_eq g.group.name name ≡ b
    → option_map (λ (x : ActiveGroup). x.group) (group_in name groups) ≡ find (λ (d : StorGroup). bytes_eq d.name name) (map (λ (x : ActiveGroup). x.group) groups)
    → option_map (λ (x : ActiveGroup). x.group) (group_in name (g ∷ groups)) ≡ find (λ (d : StorGroup). bytes_eq d.name name) (map (λ (x : ActiveGroup). x.group) (g ∷ groups))
group-map-at name g groups true is rest = rw is refl
group-map-at name g groups false is rest = rw is rest

group-map : (name : List ℕ) (groups : List ActiveGroup)
    → option_map (λ (x : ActiveGroup). x.group) (group_in name groups) ≡ find (λ (d : StorGroup). bytes_eq d.name name) (map (λ (x : ActiveGroup). x.group) groups)
group-map name [] = refl
group-map name (g ∷ groups) = group-map-at name g groups _ refl (group-map name groups)

pub group-is : (s : DeskState) (running : ActiveVolumes) (name : List ℕ) → AreVolumesOf s running → group_named s name ≡ option_map (λ (x : ActiveGroup). x.group) (group_in name running.groups.items)
group-is s running name are = sym (group-map name running.groups.items ∙ ap (find (λ (d : StorGroup). bytes_eq d.name name)) are.groups_are)

group-view : (s : DeskState) (running : ActiveVolumes) (g : ActiveGroup) → AreVolumesOf s running → IsGroupOf s g → running_group running g ≡ view_of_group s g.group
group-view s running g are is =
    let capacity = capacity-is s running g.group.name are in
    let free = free-in-is s running g.group.name are in
    rw (is.status, is.volumes, capacity, free) refl

pub group-shown : (s : DeskState) (running : ActiveVolumes) (name : List ℕ) (found : Option ActiveGroup) → AreVolumesOf s running → found ≡ group_in name running.groups.items
    → option_map (running_group running) found ≡ option_map (view_of_group s) (group_named s name)
group-shown s running name None are is = sym (ap (option_map (view_of_group s)) (group-is s running name are ∙ ap (option_map (λ (x : ActiveGroup). x.group)) (sym is)))
group-shown s running name (Some g) are is =
    let own = find-each (IsGroupOf s) (λ (x : ActiveGroup). bytes_eq x.group.name name) running.groups.items g are.each_group (sym is) in
    ap Some (group-view s running g are own) ∙ sym (ap (option_map (view_of_group s)) (group-is s running name are ∙ ap (option_map (λ (x : ActiveGroup). x.group)) (sym is)))

-- Whether a name is there.

none-more : (m : ℕ) → 0 + m ≡ m
none-more m = omega arith

one-more : (m : ℕ) → nat_eq (1 + m) 0 ≡ false
one-more m = grind (arith, nat_tests)

group-there-at : (name : List ℕ) (g : ActiveGroup) (groups : List ActiveGroup) (b : Bool) → bytes_eq g.group.name name ≡ b
    → nat_eq (times_group name (map (λ (x : ActiveGroup). x.group) groups)) 0 ≡ not (is_some (group_in name groups))
    → nat_eq (times_group name (map (λ (x : ActiveGroup). x.group) (g ∷ groups))) 0 ≡ not (is_some (group_in name (g ∷ groups)))
group-there-at name g groups true is rest = rw is (one-more (times_group name (map (λ (x : ActiveGroup). x.group) groups)))
group-there-at name g groups false is rest = rw is (ap (λ n. nat_eq n 0) (none-more (times_group name (map (λ (x : ActiveGroup). x.group) groups))) ∙ rest)

group-there : (name : List ℕ) (groups : List ActiveGroup) → nat_eq (times_group name (map (λ (x : ActiveGroup). x.group) groups)) 0 ≡ not (is_some (group_in name groups))
group-there name [] = refl
group-there name (g ∷ groups) = group-there-at name g groups _ refl (group-there name groups)

volume-there-at : (volser : List ℕ) (v : ActiveVolume) (volumes : List ActiveVolume) (b : Bool) → bytes_eq v.volume.volser volser ≡ b
    → nat_eq (times_volume volser (map (λ (x : ActiveVolume). x.volume) volumes)) 0 ≡ not (is_some (running_named volser volumes))
    → nat_eq (times_volume volser (map (λ (x : ActiveVolume). x.volume) (v ∷ volumes))) 0 ≡ not (is_some (running_named volser (v ∷ volumes)))
volume-there-at volser v volumes true is rest = rw is (one-more (times_volume volser (map (λ (x : ActiveVolume). x.volume) volumes)))
volume-there-at volser v volumes false is rest = rw is (ap (λ n. nat_eq n 0) (none-more (times_volume volser (map (λ (x : ActiveVolume). x.volume) volumes))) ∙ rest)

volume-there : (volser : List ℕ) (volumes : List ActiveVolume) → nat_eq (times_volume volser (map (λ (x : ActiveVolume). x.volume) volumes)) 0 ≡ not (is_some (running_named volser volumes))
volume-there volser [] = refl
volume-there volser (v ∷ volumes) = volume-there-at volser v volumes _ refl (volume-there volser volumes)

pub group-had : (s : DeskState) (running : ActiveVolumes) (name : List ℕ) → AreVolumesOf s running → nat_eq (times_group name (groups_in s.active)) 0 ≡ not (is_some (group_in name running.groups.items))
group-had s running name are = ap (λ (l : List StorGroup). nat_eq (times_group name l) 0) (sym are.groups_are) ∙ group-there name running.groups.items

pub volume-had : (s : DeskState) (running : ActiveVolumes) (volser : List ℕ) → AreVolumesOf s running → nat_eq (times_volume volser (volumes_in s.active)) 0 ≡ not (is_some (running_named volser running.volumes.items))
volume-had s running volser are = ap (λ (l : List VolumeDef). nat_eq (times_volume volser l) 0) (sym are.volumes_are) ∙ volume-there volser running.volumes.items

slice-some : {X : Type 0} (xs : List X) (i : ℕ) → i < length xs → is_some (slice_get xs i) ≡ true
slice-some [] i lt = absurd (omega (arith, lt))
slice-some (x ∷ xs) zero lt = refl
slice-some (x ∷ xs) (suc i) lt = slice-some xs i (omega (arith, lt))

-- a place is found where the volume is there
pub place-some : (volser : List ℕ) (volumes : List ActiveVolume) (place : Option ℕ) → MatchOption place (running_named volser volumes ≡ None) (λ (i : ℕ). running_named volser volumes ≡ slice_get volumes i)
    → MatchOption place (Unit {0}) (λ (i : ℕ). i < length volumes) → is_some (running_named volser volumes) ≡ is_some place
place-some volser volumes None found within = ap is_some found
place-some volser volumes (Some i) found within = ap is_some found ∙ slice-some volumes i within

pub copied-some : (o : Option (Bor ActiveGroup)) → is_some (option_copied o) ≡ is_some o
copied-some None = refl
copied-some (Some x) = refl
