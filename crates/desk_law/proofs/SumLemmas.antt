-- The granted and the free tracks of a volume.
use Rattle.std.proofs.Common.{◌≡◌, ◌≤◌, ◌<◌, ℕ, ◌+◌, Bool, true, false, List, [], ◌∷◌, length, refl, ap, ◌∙◌, subst}
use Rattle.std.proofs.Common.{arith}
use Rattle.std.specs.Prelude.{Option, Some, IfSome, bytes_eq, nat_eq, slice_get}
use Rattle.std.specs.List.{All, AllByRecursion}
use Rattle.std.proofs.lemmas.List.Sums.{sum_by-cons}
use Rattle.std.proofs.lemmas.List.Elements.{All-from_recursion}
use Rattle.sms_construct.specs.Configuration.{Configuration, IsConfiguration}
use Rattle.sms_construct.specs.declared.data_set.DataSet.{DataSet}
use Rattle.sms_construct.specs.declared.extent.Extent.{Extent}
use Rattle.sms_construct.specs.declared.volume.VolumeDef.{VolumeDef}
use Rattle.track_ledger.specs.declared.piece.Piece.{Piece}
use Rattle.track_ledger.specs.Extents.{LiesInside, tracks_held}
use Rattle.track_ledger.specs.Gaps.{before_gaps, free_tracks, runs_of, times_held}
use Rattle.track_ledger.proofs.HolderLemmas.{gaps-sum}
use Rattle.desk_law.specs.State.{DeskState}
use Rattle.desk_law.specs.Extents.{extents_of, granted_on, held_on, piece_of, pieces_on}
use Rattle.desk_law.specs.Volumes.{tracks_of, volumes_in}
use Rattle.desk_law.specs.Lawful.{IsInside, IsLawful, IsLawfulSet}
use Rattle.desk_law.proofs.ByteLemmas.{same-bytes}
use Rattle.desk_law.proofs.AscendLemmas.{volumes-once}
use Rattle.desk_law.proofs.PlaceLemmas.{each-at}
use Rattle.desk_law.proofs.SetLemmas.{each-append}
use Rattle.desk_law.proofs.GrantLemmas.{each-tracks}

before-sum-at : (track : ℕ) (gap : Piece) (gaps : List Piece) (b : Bool) → nat_eq (track + 1) gap.start ≡ b → tracks_held (before_gaps track (gap ∷ gaps)) ≡ 1 + tracks_held (gap ∷ gaps)
before-sum-at track gap gaps true is =
    let whole = sum_by-cons (λ (p : Piece). p.length) gap gaps in
    let joined = sum_by-cons (λ (p : Piece). p.length) (record { start = track; length = gap.length + 1 }) gaps in
    rw is (omega (arith, whole, joined))
before-sum-at track gap gaps false is =
    let more = sum_by-cons (λ (p : Piece). p.length) (record { start = track; length = 1 }) (gap ∷ gaps) in
    rw is (omega (arith, more))

before-sum : (track : ℕ) (gaps : List Piece) → tracks_held (before_gaps track gaps) ≡ 1 + tracks_held gaps
before-sum track [] = sum_by-cons (λ (p : Piece). p.length) (record { start = track; length = 1 }) []
before-sum track (gap ∷ gaps) = before-sum-at track gap gaps _ refl

-- the runs of tracks have as many
runs-sum : (tracks : List ℕ) → tracks_held (runs_of tracks) ≡ length tracks
runs-sum [] = refl
runs-sum (track ∷ tracks) = omega (arith, before-sum track (runs_of tracks), runs-sum tracks)

-- pieces that lie inside a volume and apart, and the tracks that are free beside them
pieces-sum : (capacity : ℕ) (pieces : List Piece) → 0 < capacity → ((t : ℕ) → times_held pieces t ≤ 1) → All (LiesInside capacity) pieces
    → tracks_held pieces + length (free_tracks capacity pieces) ≡ capacity
pieces-sum capacity pieces some once inside = omega (arith, gaps-sum capacity pieces some once inside, runs-sum (free_tracks capacity pieces))

pieces-inside-at : (volumes : List VolumeDef) (v : List ℕ) (e : Extent) (es : List Extent) (b : Bool) → bytes_eq e.volser v ≡ b → IsInside volumes e → AllByRecursion (LiesInside (tracks_of v volumes)) (pieces_on v es)
    → AllByRecursion (LiesInside (tracks_of v volumes)) (pieces_on v (e ∷ es))
pieces-inside-at volumes v e es true is here rest =
    rw is (subst (λ n. LiesInside (tracks_of n volumes) (piece_of e)) (same-bytes e.volser v is) here, rest)
pieces-inside-at volumes v e es false is here rest = rw is rest

pieces-inside : (volumes : List VolumeDef) (v : List ℕ) (es : List Extent) → AllByRecursion (IsInside volumes) es → AllByRecursion (LiesInside (tracks_of v volumes)) (pieces_on v es)
pieces-inside volumes v [] all = tt
pieces-inside volumes v (e ∷ es) all = pieces-inside-at volumes v e es _ refl all.0 (pieces-inside volumes v es all.1)

sets-inside : (volumes : List VolumeDef) (sets : List DataSet) → AllByRecursion (IsLawfulSet volumes) sets → AllByRecursion (IsInside volumes) (extents_of sets)
sets-inside volumes [] all = tt
sets-inside volumes (set ∷ sets) all = each-append (IsInside volumes) set.extents (extents_of sets) all.0.inside (sets-inside volumes sets all.1)

-- the tracks of an active volume that are held, and those that aren't
pub held-and-free : (s : DeskState) (config : Configuration) (volume : VolumeDef) (position : ℕ) → IsLawful s → s.active ≡ Some config → slice_get config.volumes position ≡ Some volume
    → granted_on s volume.volser + length (free_tracks volume.tracks (held_on s volume.volser)) ≡ volume.tracks
held-and-free s config volume position lawful is there =
    let good : IsConfiguration config = subst (λ (o : Option Configuration). IfSome o IsConfiguration) is lawful.config in
    let own : tracks_of volume.volser config.volumes ≡ volume.tracks =
    each-at (λ (v : VolumeDef). tracks_of v.volser config.volumes ≡ v.tracks) config.volumes position volume (each-tracks config.volumes (λ n. volumes-once n config.volumes good.volsers)) there in
    let now : tracks_of volume.volser (volumes_in s.active) ≡ volume.tracks = ap (λ (o : Option Configuration). tracks_of volume.volser (volumes_in o)) is ∙ own in
    let some : 0 < volume.tracks = each-at (λ (v : VolumeDef). 0 < v.tracks) config.volumes position volume good.tracks there in
    let inside = pieces-inside (volumes_in s.active) volume.volser (extents_of s.sets) (sets-inside (volumes_in s.active) s.sets lawful.sets) in
    let all : All (LiesInside volume.tracks) (held_on s volume.volser) =
    subst (λ n. All (LiesInside n) (held_on s volume.volser)) now (All-from_recursion (LiesInside (tracks_of volume.volser (volumes_in s.active))) (held_on s volume.volser) inside) in
    pieces-sum volume.tracks (held_on s volume.volser) some (lawful.once volume.volser) all
