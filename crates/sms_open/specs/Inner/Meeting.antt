-- Extents in the order of their volumes and starts.
use Rattle.std.specs.Prelude.{◌≡◌, ◌≤◌, ◌<◌, ◌+◌, ◌⊎◌, List, [], ◌∷◌}
use Rattle.std.specs.List.{AllByRecursion}
use Rattle.std.specs.Cmp.Lexicographic.{slice_cmp}
use Rattle.std.specs.Ordering.{nat_cmp, ordering_then}
use Rattle.std.specs.declared.cmp.Ordering.{Ordering}
use Rattle.std.specs.declared.cmp.Ordering.TheVariants.{Less}
use Rattle.sms_construct.specs.declared.data_set.DataSet.{DataSet}
use Rattle.sms_construct.specs.declared.extent.Extent.{Extent}

-- the order of extents: by volume, and on a volume by the first track
abbrev pub place_cmp : Extent → Extent → Ordering
place_cmp one other = ordering_then (slice_cmp nat_cmp one.volser other.volser) (nat_cmp one.start other.start)

-- no extent of the data set is empty
abbrev pub HasTracks : DataSet → Type 0
HasTracks set = AllByRecursion (λ extent. 0 < extent.length) set.extents

-- the second extent lies on a volume behind that of the first, or on that volume and behind the first
abbrev pub Follows : Extent → Extent → Type 0
Follows first second =
    (slice_cmp nat_cmp first.volser second.volser ≡ Less) ⊎
    ((first.volser ≡ second.volser) × (first.start + first.length ≤ second.start))

-- each extent follows the one before it
abbrev pub AreChained : List Extent → Type 0
AreChained [] = Unit {0}
AreChained (first ∷ []) = Unit {0}
AreChained (first ∷ second ∷ extents) = Follows first second × AreChained (second ∷ extents)
