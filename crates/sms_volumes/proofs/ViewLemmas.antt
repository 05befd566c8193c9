-- What a running volume is to the law.
use Rattle.std.proofs.Common.{◌≡◌, ◌≤◌, ◌<◌, ℕ, zero, suc, ◌+◌, ◌-◌, Bool, true, false, List, [], ◌∷◌, length, get_or}
use Rattle.std.proofs.Common.{drop, refl, sym, ap, ◌∙◌, subst, arith}
use Rattle.std.specs.Prelude.{Option, None, Some, IfSome, bytes_eq, find, slice_get}
use Rattle.std.specs.List.{AllByRecursion}
use Rattle.desk_common.specs.Limits.{most_extents}
use Rattle.sms_construct.specs.Configuration.{Configuration, IsConfiguration}
use Rattle.sms_construct.specs.Quantities.{most_breakpoint}
use Rattle.sms_construct.specs.declared.storage_group.StorGroup.{StorGroup}
use Rattle.track_ledger.specs.declared.need.Need.{Need}
use Rattle.track_ledger.specs.declared.piece.Piece.{Piece}
use Rattle.track_ledger.specs.Extents.{tracks_held}
use Rattle.track_ledger.specs.Ledger.{IsLedgerOf}
use Rattle.track_ledger.specs.Need.{IsNeed, grant_beside}
use Rattle.desk_law.specs.State.{DeskState}
use Rattle.desk_law.specs.Candidates.{breakpoint_of, grant_on, high_of, is_overflow, need_on, tier_among, view_of}
use Rattle.desk_law.specs.Extents.{granted_on, held_on}
use Rattle.desk_law.specs.Lawful.{IsLawful}
use Rattle.desk_law.specs.Statuses.{group_status}
use Rattle.desk_law.specs.Volumes.{group_named, groups_in, volumes_of_group}
use Rattle.desk_law.proofs.ByteLemmas.{same-bytes}
use Rattle.desk_law.proofs.PlaceLemmas.{each-at, find-each}
use Rattle.sms_volumes.specs.Asking.{IsAsked, ask_of, need_in}
use Rattle.sms_volumes.specs.Holding.{AreVolumesOf, IsGroupOf, IsVolumeOf}
use Rattle.sms_volumes.specs.Inner.Leading.{view_in}
use Rattle.sms_volumes.specs.Viewing.{running_named}
use Rattle.sms_volumes.specs.declared.active_group.ActiveGroup.{ActiveGroup}
use Rattle.sms_volumes.specs.declared.active_volume.ActiveVolume.{ActiveVolume}
use Rattle.sms_volumes.specs.declared.active_volumes.ActiveVolumes.{ActiveVolumes}
use Rattle.sms_volumes.specs.declared.asked.Asked.{Asked}
use Rattle.sms_volumes.proofs.HeldLemmas.{ledger-sum}

-- The group at the place of a volume.

name-found-at : (name : List ℕ) (g : StorGroup) (groups : List StorGroup) (group : StorGroup) (b : Bool) → bytes_eq g.name name ≡ b
    → (find (λ (x : StorGroup). bytes_eq x.name name) groups ≡ Some group → group.name ≡ name) → find (λ (x : StorGroup). bytes_eq x.name name) (g ∷ groups) ≡ Some group → group.name ≡ name
name-found-at name g groups group true is rest there =
    let now : Some g ≡ Some group = rw is at there in
    let same : g ≡ group = cc in
    ap (λ (x : StorGroup). x.name) (sym same) ∙ same-bytes g.name name is
name-found-at name g groups group false is rest there =
    let now : find (λ (x : StorGroup). bytes_eq x.name name) groups ≡ Some group = rw is at there in rest now

pub name-of-found : (name : List ℕ) (groups : List StorGroup) (group : StorGroup) → find (λ (g : StorGroup). bytes_eq g.name name) groups ≡ Some group → group.name ≡ name
name-of-found name [] group found = absurd cc
name-of-found name (g ∷ groups) group found = name-found-at name g groups group _ refl (name-of-found name groups group) found

pub group-is-at : (s : DeskState) (groups : List ActiveGroup) (volume : ActiveVolume) (group : ActiveGroup) → IsVolumeOf s groups volume → slice_get groups volume.group ≡ Some group
    → group_named s volume.volume.group ≡ Some group.group
group-is-at s groups volume group is there =
    let at = is.group in
    let now : Some at.group ≡ Some group = sym at.there ∙ there in
    let same : at.group ≡ group = cc in
    at.named ∙ ap (λ (g : ActiveGroup). Some g.group) same

-- What is needed, and what is granted.

pub need-is : (s : DeskState) (groups : List ActiveGroup) (asked : Asked) (held : ℕ) (volume : ActiveVolume) (group : ActiveGroup) → IsVolumeOf s groups volume → slice_get groups volume.group ≡ Some group
    → need_in asked group held ≡ need_on s volume.volume (ask_of asked) held
need-is s groups asked held volume group is there =
    ap (λ n. record { unit = asked.unit; tracks = asked.tracks; held = held; eattr = asked.eattr; breakpoint = n }) (sym (ap breakpoint_of (group-is-at s groups volume group is there)))

breakpoint-small : (active : Option Configuration) (name : List ℕ) → IfSome active IsConfiguration → breakpoint_of (find (λ (group : StorGroup). bytes_eq group.name name) (groups_in active)) ≤ most_breakpoint
breakpoint-small None name is = omega arith
breakpoint-small (Some config) name is = found-small (find (λ (group : StorGroup). bytes_eq group.name name) config.groups) refl
  where
    found-small : (o : Option StorGroup) → find (λ (group : StorGroup). bytes_eq group.name name) config.groups ≡ o → breakpoint_of o ≤ most_breakpoint
    found-small None found = omega arith
    found-small (Some group) found = find-each (λ (g : StorGroup). g.breakpoint ≤ most_breakpoint) (λ (g : StorGroup). bytes_eq g.name name) config.groups group is.breakpoints found

pub need-sound : (s : DeskState) (groups : List ActiveGroup) (asked : Asked) (held : ℕ) (volume : ActiveVolume) (group : ActiveGroup) → IsLawful s → IsAsked asked → held ≤ most_extents → IsVolumeOf s groups volume
    → slice_get groups volume.group ≡ Some group → IsNeed (need_in asked group held)
need-sound s groups asked held volume group lawful sound most is there =
    subst IsNeed (sym (need-is s groups asked held volume group is there))
    (record { some = sound.some; whole = sound.whole; few = most; breakpoint = breakpoint-small s.active volume.volume.group lawful.config })

-- what the ledger grants is what the law says
pub grant-is : (s : DeskState) (groups : List ActiveGroup) (asked : Asked) (held : ℕ) (volume : ActiveVolume) (group : ActiveGroup) (found : Option (List Piece)) → IsVolumeOf s groups volume
    → slice_get groups volume.group ≡ Some group → ((pieces : List Piece) → IsLedgerOf pieces volume.ledger → found ≡ grant_beside volume.ledger.capacity pieces (need_in asked group held))
    → found ≡ grant_on s volume.volume (ask_of asked) held
grant-is s groups asked held volume group found is there plan =
    let pieces = held_on s volume.volume.volser in
    plan pieces is.ledger ∙ (ap (λ (n : ℕ). grant_beside n pieces (need_in asked group held)) is.capacity ∙ ap (grant_beside volume.volume.tracks pieces) (need-is s groups asked held volume group is there))

-- the volume as the lists see it, if it had room
pub view-is : (s : DeskState) (groups : List ActiveGroup) (asked : Asked) (volume : ActiveVolume) (group : ActiveGroup) → AllByRecursion (IsGroupOf s) groups → IsVolumeOf s groups volume
    → slice_get groups volume.group ≡ Some group → view_in asked volume group ≡ record (view_of s (ask_of asked) volume.volume) { fits = true }
view-is s groups asked volume group each is there =
    let named = group-is-at s groups volume group is there in
    let ours = each-at (IsGroupOf s) groups volume.group group each there in
    let name : group.group.name ≡ volume.volume.group = name-of-found volume.volume.group (groups_in s.active) group.group named in
    let status : group.status ≡ group_status s volume.volume.group = ours.status ∙ ap (group_status s) name in
    let count : group.volumes ≡ length (volumes_of_group s volume.volume.group) = ours.volumes ∙ ap (λ n. length (volumes_of_group s n)) name in
    let overflow : group.group.overflow ≡ is_overflow (group_named s volume.volume.group) = sym (ap is_overflow named) in
    let high : group.group.high ≡ high_of (group_named s volume.volume.group) = sym (ap high_of named) in
    let sum : tracks_held volume.ledger.gaps + tracks_held (held_on s volume.volume.volser) ≡ volume.ledger.capacity = ledger-sum (held_on s volume.volume.volser) volume.ledger is.ledger in
    let granted : volume.ledger.capacity - tracks_held volume.ledger.gaps ≡ granted_on s volume.volume.volser = omega (arith, sum) in
    rw (status, is.status, overflow, high, granted, count) refl

-- The volume at a place.

module _ (s : DeskState) (running : ActiveVolumes) (asked : Asked) (place : ℕ) (v : ActiveVolume) (group : ActiveGroup) (are : AreVolumesOf s running) (at : slice_get running.volumes.items place ≡ Some v)
    (there : slice_get running.groups.items v.group ≡ Some group) where
  own-at : IsVolumeOf s running.groups.items v
  own-at = each-at (IsVolumeOf s running.groups.items) running.volumes.items place v are.each_volume at

  pub needed-at : (held : ℕ) → IsLawful s → IsAsked asked → held ≤ most_extents → IsNeed (need_in asked group held)
  needed-at held lawful sound most = need-sound s running.groups.items asked held v group lawful sound most own-at there

  pub granted-at : (held : ℕ) (need : Need) (found : Option (List Piece)) → need ≡ need_in asked group held
      → ((pieces : List Piece) → IsLedgerOf pieces v.ledger → found ≡ grant_beside v.ledger.capacity pieces need) → found ≡ grant_on s v.volume (ask_of asked) held
  granted-at held need found is plan =
      grant-is s running.groups.items asked held v group found own-at there (subst (λ (n : Need). (pieces : List Piece) → IsLedgerOf pieces v.ledger → found ≡ grant_beside v.ledger.capacity pieces n) is plan)

  pub seen-at : view_in asked v group ≡ record (view_of s (ask_of asked) v.volume) { fits = true }
  seen-at = view-is s running.groups.items asked v group are.each_group own-at there

-- The tier of a storage group.

pub tier-there : (name : List ℕ) (tiers : List (List ℕ)) (i : ℕ) (d : List ℕ) → i < length tiers → bytes_eq (get_or tiers i d) name ≡ true → tier_among (drop i tiers) name ≡ 0
tier-there name [] i d lt is = absurd (omega (arith, lt))
tier-there name (t ∷ tiers) zero d lt is = rw is refl
tier-there name (t ∷ tiers) (suc i) d lt is = tier-there name tiers i d (omega (arith, lt)) is

pub tier-past : (name : List ℕ) (tiers : List (List ℕ)) (i : ℕ) (d : List ℕ) → i < length tiers → bytes_eq (get_or tiers i d) name ≡ false → tier_among (drop i tiers) name ≡ tier_among (drop (suc i) tiers) name + 1
tier-past name [] i d lt is = absurd (omega (arith, lt))
tier-past name (t ∷ []) zero d lt is = rw is refl
tier-past name (t ∷ (u ∷ tiers)) zero d lt is = rw is refl
tier-past name (t ∷ tiers) (suc i) d lt is = tier-past name tiers i d (omega (arith, lt)) is

pub tier-none : (name : List ℕ) (tiers : List (List ℕ)) (i : ℕ) → length tiers ≤ i → tier_among (drop i tiers) name ≡ 0
tier-none name [] zero le = refl
tier-none name [] (suc i) le = refl
tier-none name (t ∷ tiers) zero le = absurd (omega (arith, le))
tier-none name (t ∷ tiers) (suc i) le = tier-none name tiers i (omega (arith, le))

-- The place of a serial.

pub place-found : (volser : List ℕ) (volumes : List ActiveVolume) (place : ℕ) (x : ActiveVolume) → place < length volumes → x ≡ get_or volumes place x → bytes_eq x.volume.volser volser ≡ true
    → running_named volser (drop place volumes) ≡ slice_get volumes place
place-found volser [] place x lt at is = absurd (omega (arith, lt))
place-found volser (v ∷ volumes) zero x lt at is =
    let on : bytes_eq v.volume.volser volser ≡ true = ap (λ (y : ActiveVolume). bytes_eq y.volume.volser volser) (sym at) ∙ is in rw on refl
place-found volser (v ∷ volumes) (suc place) x lt at is = place-found volser volumes place x (omega (arith, lt)) at is
