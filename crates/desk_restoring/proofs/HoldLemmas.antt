-- The tracks of one extent are taken.
use Rattle.std.proofs.Common.{◌≡◌, ◌<◌, ℕ, zero, suc, ◌+◌, Bool, true, false, cond, List, [], ◌∷◌, ◌++◌, length, map}
use Rattle.std.proofs.Common.{refl, sym, ap, ◌∙◌, subst, arith}
use Rattle.std.specs.Prelude.{Option, None, Some, bytes_eq, option_map, slice_get}
use Rattle.std.specs.List.{All}
use Rattle.std.proofs.lemmas.List.Elements.{All-cons, All-nil}
use Rattle.sms_construct.specs.declared.data_set.DataSet.{DataSet}
use Rattle.sms_construct.specs.declared.extent.Extent.{Extent}
use Rattle.sms_construct.specs.declared.volume.VolumeDef.{VolumeDef}
use Rattle.track_ledger.specs.declared.piece.Piece.{Piece}
use Rattle.track_ledger.specs.Extents.{LiesInside, NoTrackTwice}
use Rattle.track_ledger.proofs.HolderLemmas.{times-append}
use Rattle.track_ledger.proofs.LedgerLemmas.{ledger-into}
use Rattle.desk_law.specs.State.{DeskState, with_set}
use Rattle.desk_law.specs.Extents.{extents_at, extents_named, held_on, piece_of}
use Rattle.desk_law.specs.Lawful.{IsLawful}
use Rattle.desk_law.specs.Volumes.{times_volume, tracks_of, volumes_in}
use Rattle.desk_law.proofs.ByteLemmas.{same-bytes}
use Rattle.desk_law.proofs.PlaceLemmas.{each-at}
use Rattle.sms_volumes.specs.Changing.{IsFreeAt, running_at}
use Rattle.sms_volumes.specs.Holding.{AreVolumesOf, IsVolumeOf}
use Rattle.sms_volumes.specs.Viewing.{running_named}
use Rattle.sms_volumes.specs.declared.active_volume.ActiveVolume.{ActiveVolume}
use Rattle.sms_volumes.specs.declared.active_volumes.ActiveVolumes.{ActiveVolumes}
use Rattle.sms_volumes.proofs.NextLemmas.{volume-none, volume-some}
use Rattle.desk_restoring.specs.Inner.Placing.{CanHold}

-- The volume is there.

no-tracks-at : (n : List ℕ) (v : VolumeDef) (volumes : List VolumeDef) (b : Bool) → bytes_eq v.volser n ≡ b → cond b 1 0 + times_volume n volumes ≡ 0 → (times_volume n volumes ≡ 0 → tracks_of n volumes ≡ 0)
    → tracks_of n (v ∷ volumes) ≡ 0
no-tracks-at n v volumes true is none rest = absurd (omega (arith, none))
no-tracks-at n v volumes false is none rest = rw is (rest (omega (arith, none)))

no-tracks : (n : List ℕ) (volumes : List VolumeDef) → times_volume n volumes ≡ 0 → tracks_of n volumes ≡ 0
no-tracks n [] none = refl
no-tracks n (v ∷ volumes) none = no-tracks-at n v volumes _ refl none (no-tracks n volumes)

pub volume-there : (extent : Extent) (running : ActiveVolumes) → CanHold extent running → running_named extent.volser running.volumes.items ≡ None → ⊥
volume-there extent running can none =
    let times : times_volume extent.volser (volumes_in can.state.active) ≡ 0 = subst (λ (l : List VolumeDef). times_volume extent.volser l ≡ 0) can.stand.volumes_are (volume-none extent.volser running.volumes.items none) in
    let tracks : tracks_of extent.volser (volumes_in can.state.active) ≡ 0 = no-tracks extent.volser (volumes_in can.state.active) times in
    let some = can.inside.0 in
    let within = can.inside.1 in
    omega (arith, tracks, some, within)

some-at : {X : Type 0} (xs : List X) (place : ℕ) → place < length xs → (x : X) × (slice_get xs place ≡ Some x)
some-at [] place lt = absurd (omega (arith, lt))
some-at (x ∷ xs) zero lt = (x, refl)
some-at (x ∷ xs) (suc place) lt = some-at xs place (omega (arith, lt))

tracks-named-at : (n : List ℕ) (x : ActiveVolume) (volumes : List ActiveVolume) (v : ActiveVolume) (b : Bool) → bytes_eq x.volume.volser n ≡ b
    → (running_named n volumes ≡ Some v → tracks_of n (map (λ (y : ActiveVolume). y.volume) volumes) ≡ v.volume.tracks) → running_named n (x ∷ volumes) ≡ Some v
    → tracks_of n (map (λ (y : ActiveVolume). y.volume) (x ∷ volumes)) ≡ v.volume.tracks
tracks-named-at n x volumes v true is rest found =
    let now : Some x ≡ Some v = rw is at found in
    let same : x ≡ v = cc in rw is (ap (λ (y : ActiveVolume). y.volume.tracks) same)
tracks-named-at n x volumes v false is rest found =
    let now : running_named n volumes ≡ Some v = rw is at found in rw is (rest now)

tracks-named : (n : List ℕ) (volumes : List ActiveVolume) (v : ActiveVolume) → running_named n volumes ≡ Some v → tracks_of n (map (λ (y : ActiveVolume). y.volume) volumes) ≡ v.volume.tracks
tracks-named n [] v found = absurd cc
tracks-named n (x ∷ volumes) v found = tracks-named-at n x volumes v _ refl (tracks-named n volumes v) found

-- Its tracks are free there.

pub free-at : (extent : Extent) (running : ActiveVolumes) (place : ℕ) → CanHold extent running → place < length running.volumes.items
    → running_named extent.volser running.volumes.items ≡ slice_get running.volumes.items place → IsFreeAt running place (piece_of extent ∷ [])
free-at extent running place can lt found =
    let s : DeskState = can.state in
    let stand : AreVolumesOf s running = can.stand in
    let p : Piece = piece_of extent in
    let at = some-at running.volumes.items place lt in
    let v : ActiveVolume = at.0 in
    let named : running_named extent.volser running.volumes.items ≡ Some v = found ∙ at.1 in
    let serial : v.volume.volser ≡ extent.volser = same-bytes v.volume.volser extent.volser (volume-some extent.volser running.volumes.items v named).same in
    let is : IsVolumeOf s running.groups.items v = each-at (IsVolumeOf s running.groups.items) running.volumes.items place v stand.each_volume at.1 in
    let tracks : tracks_of extent.volser (volumes_in s.active) ≡ v.ledger.capacity =
    ap (tracks_of extent.volser) (sym stand.volumes_are) ∙ (tracks-named extent.volser running.volumes.items v named ∙ sym is.capacity) in
    let inside : All (LiesInside v.ledger.capacity) (p ∷ []) = All-cons (LiesInside v.ledger.capacity) p [] (subst (λ (n : ℕ). LiesInside n p) tracks can.inside) (All-nil (LiesInside v.ledger.capacity)) in
    let free : NoTrackTwice (held_on s v.volume.volser ++ p ∷ []) =
    subst (λ (n : List ℕ). NoTrackTwice (held_on s n ++ p ∷ [])) (sym serial) (λ t. omega (arith, can.free t, times-append (held_on s extent.volser) (p ∷ []) t)) in
    record { volume = v; at = at.1; free = record { inside = inside; free = ledger-into (held_on s v.volume.volser) (p ∷ []) v.ledger is.ledger inside free } }

-- What the volume gets.

pub serial-at : (n : List ℕ) (running roomy : ActiveVolumes) (place : ℕ) (x : ActiveVolume) → place < length running.volumes.items → running_named n running.volumes.items ≡ slice_get running.volumes.items place
    → running_at place roomy ≡ running_at place running → slice_get roomy.volumes.items place ≡ Some x → x.volume.volser ≡ n
serial-at n running roomy place x lt found same there =
    let definition : Option ActiveVolume → Option VolumeDef = option_map (λ (v : ActiveVolume). v.volume) in
    let at = some-at running.volumes.items place lt in
    let v : ActiveVolume = at.0 in
    let both : Some x.volume ≡ Some v.volume = sym (ap definition there) ∙ (same ∙ ap definition at.1) in
    let one : x.volume ≡ v.volume = cc in
    ap (λ (d : VolumeDef). d.volser) one ∙ same-bytes v.volume.volser n (volume-some n running.volumes.items v (found ∙ at.1)).same

pub all-held : (s : DeskState) (set : DataSet) (extent : Extent) (roomy after : ActiveVolumes) (place : ℕ) (x : ActiveVolume) → IsLawful s → AreVolumesOf s roomy → slice_get roomy.volumes.items place ≡ Some x
    → x.volume.volser ≡ extent.volser → set.extents ≡ extents_named set.dsn s.sets ++ extent ∷ []
    → ((t : DeskState) (d : DataSet) (v : ActiveVolume) → IsLawful t → AreVolumesOf t roomy → slice_get roomy.volumes.items place ≡ Some v
    → d.extents ≡ extents_named d.dsn t.sets ++ extents_at v.volume.volser (piece_of extent ∷ []) → AreVolumesOf (with_set t d) after)
    → AreVolumesOf (with_set s set) after
all-held s set extent roomy after place x lawful are there serial at install =
    install s set x lawful are there (at ∙ ap (λ (n : List ℕ). extents_named set.dsn s.sets ++ extents_at n (piece_of extent ∷ [])) (sym serial))
