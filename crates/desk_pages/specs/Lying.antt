-- Extents on a volume, and the gaps between them (docs/manual/smsd.md, "What pages show").
use Rattle.std.specs.Prelude.{ℕ, ◌≡◌, ◌+◌, ◌-◌, ◌&&◌, Bool, List, [], ◌∷◌, ◌++◌, None, bytes_eq, flat_map}
use Rattle.std.specs.Prelude.{nat_lt, if◌then◌else◌}
use Rattle.std.specs.List.Sorted.{IsNonDecreasingBy, IsPermutation}
use Rattle.desk_common.specs.Limits.{border}
use Rattle.page_text.specs.declared.gap.Gap.{Gap}
use Rattle.page_text.specs.declared.set_extent.SetExtent.{SetExtent}
use Rattle.sms_construct.specs.declared.data_set.DataSet.{DataSet}
use Rattle.sms_construct.specs.declared.extent.Extent.{Extent}
use Rattle.desk_state.specs.Following.{IsLastName}
use Rattle.desk_pages.specs.Listing.{IsWalk, last_name}

-- the extent lies on the volume, and ends behind the track
abbrev pub lies_behind : List ℕ → ℕ → Extent → Bool
lies_behind volser from extent = bytes_eq extent.volser volser && nat_lt from (extent.start + extent.length)

-- those extents of the data set of this name that lie on a volume and end behind a track
abbrev pub lying_in : List ℕ → ℕ → List ℕ → List Extent → List SetExtent
lying_in volser from dsn [] = []
lying_in volser from dsn (extent ∷ extents) =
    if lies_behind volser from extent
    then record { dsn = dsn; start = extent.start; length = extent.length } ∷ lying_in volser from dsn extents
    else lying_in volser from dsn extents

-- those of all these data sets
abbrev pub lying_of : List ℕ → ℕ → List DataSet → List SetExtent
lying_of volser from sets = flat_map (λ set. lying_in volser from set.dsn set.extents) sets

-- all data sets, each once, in the order of their names
pub record AreAll (sets all : List DataSet) : Type 0 where
  pub walks : IsWalk sets None all
  pub last : IsLastName (last_name None all) sets

-- the extents of all data sets that lie on a volume and end behind a track, data set by data set
pub record AreFound (sets : List DataSet) (volser : List ℕ) (from : ℕ) (extents : List SetExtent) : Type 0 where
  pub all : List DataSet
  pub are_all : AreAll sets all
  pub extents_are : extents ≡ lying_of volser from all

-- the same in the order of their first tracks
pub record AreLying (sets : List DataSet) (volser : List ℕ) (from : ℕ) (extents : List SetExtent) : Type 0 where
  pub found : List SetExtent
  pub are_found : AreFound sets volser from found
  pub same : IsPermutation found extents
  pub order : IsNonDecreasingBy (λ (extent : SetExtent). extent.start) extents

-- the tracks from one on, before another, if there are some
abbrev pub run_of : ℕ → ℕ → List Gap
run_of from end = if nat_lt from end then record { start = from; length = end - from } ∷ [] else []

-- the same, cut where the cylinder-managed part of a volume begins
abbrev pub gaps_of : ℕ → ℕ → List Gap
gaps_of from end =
    if nat_lt from border && nat_lt border end then run_of from border ++ run_of border end else run_of from end

-- what lies of the tracks from one on, before another, beside extents: before each of them, and behind the last
abbrev pub gaps_beside : ℕ → ℕ → List SetExtent → List Gap
gaps_beside end from [] = gaps_of from end
gaps_beside end from (extent ∷ extents) =
    gaps_of from extent.start ++ gaps_beside end (extent.start + extent.length) extents
