-- A data set that may stand on volumes whose tracks are known.
use Rattle.std.proofs.Common.{◌≡◌, ◌<◌, ◌≤◌, ℕ, Bool, true, false, List, [], ◌∷◌, length, Result, refl, subst, arith}
use Rattle.std.specs.Prelude.{IfOk}
use Rattle.std.specs.List.{AllByRecursion}
use Rattle.desk_common.specs.Limits.{most_extents}
use Rattle.sms_construct.specs.declared.data_set.DataSet.{DataSet}
use Rattle.sms_construct.specs.declared.extent.Extent.{Extent}
use Rattle.sms_construct.specs.declared.volume.VolumeDef.{VolumeDef}
use Rattle.track_ledger.specs.Extents.{LiesInside}
use Rattle.desk_law.specs.Extents.{piece_of, pieces_on}
use Rattle.desk_law.specs.Lawful.{IsInside, IsLawfulSet, IsWhole, LiesInPart}
use Rattle.sms_open.specs.Inner.Meeting.{HasTracks}
use Rattle.sms_open.specs.Inner.Targets.{AreTracks, number_on}
use Rattle.sms_open.specs.Verdicts.{Tells}
use Rattle.sms_open.proofs.NameLemmas.{told-alike}

-- as the numbers say it
abbrev pub AreIn : List (List ℕ × ℕ) → List Extent → Type 0
AreIn tracks extents = AllByRecursion (λ extent. LiesInside (number_on extent.volser tracks) (piece_of extent)) extents

pub inside-from : (volumes : List VolumeDef) (tracks : List (List ℕ × ℕ)) → AreTracks volumes tracks → (es : List Extent) → AreIn tracks es → AllByRecursion (IsInside volumes) es
inside-from volumes tracks known [] all = tt
inside-from volumes tracks known (e ∷ es) all = (subst (λ (n : ℕ). LiesInside n (piece_of e)) (known e.volser) all.0, inside-from volumes tracks known es all.1)

-- the last of the tests of a data set tells of all
pub lawful-told : {E : Type 0} (r : Result Bool E) (volumes : List VolumeDef) (tracks : List (List ℕ × ℕ)) (set : DataSet) → AreTracks volumes tracks → 0 < length set.extents → AreIn tracks set.extents
    → AllByRecursion LiesInPart set.extents → IsWhole set → IfOk r (Tells ((volser : List ℕ) → length (pieces_on volser set.extents) ≤ most_extents)) → IfOk r (Tells (IsLawfulSet volumes set))
lawful-told r volumes tracks set known some inside parted whole told =
    told-alike _ _ r (λ few. record { some = some; inside = inside-from volumes tracks known set.extents inside; parted = parted; few = few; whole = whole }) (λ lawful. lawful.few) told

-- each extent of a lawful data set has a track
pub inside-tracks : (volumes : List VolumeDef) (es : List Extent) → AllByRecursion (IsInside volumes) es → AllByRecursion (λ extent. 0 < extent.length) es
inside-tracks volumes [] all = tt
inside-tracks volumes (e ∷ es) all = (all.0.0, inside-tracks volumes es all.1)

pub lawful-tracks : (volumes : List VolumeDef) (sets : List DataSet) → AllByRecursion (IsLawfulSet volumes) sets → AllByRecursion HasTracks sets
lawful-tracks volumes [] all = tt
lawful-tracks volumes (set ∷ sets) all = (inside-tracks volumes set.extents all.0.inside, lawful-tracks volumes sets all.1)

-- what isn't empty has an element
pub some-length : (es : List Extent) (b : Bool) → (es ≡ [] → b ≡ true) → b ≡ false → 0 < length es
some-length [] b empty is = let yes : b ≡ true = empty refl in absurd cc
some-length (e ∷ es) b empty is = omega arith
