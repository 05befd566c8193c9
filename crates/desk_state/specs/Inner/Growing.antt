-- What an extension gives a data set.
use Rattle.std.specs.Prelude.{ℕ, ◌≡◌, ◌≤◌, List, length, nat_lt, Option, None, Some, option_map, MatchBool, MatchOption}
use Rattle.desk_common.specs.Limits.{most_extents}
use Rattle.sms_construct.specs.declared.data_set.DataSet.{DataSet}
use Rattle.sms_construct.specs.declared.extent.Extent.{Extent}
use Rattle.desk_law.specs.State.{DeskState}
use Rattle.desk_law.specs.Extension.{ask_more, first_volume, growth_on, last_volume, others_of}
use Rattle.desk_law.specs.Extents.{extents_at, pieces_on, volumes_of}
use Rattle.desk_law.specs.Lawful.{IsWhole}
use Rattle.desk_state.specs.Inner.Granting.{IsGrantAmong}
use Rattle.desk_state.specs.declared.grant.Grant.{Grant}

-- the secondary quantity is in whole units, and on no volume are more than 16 extents
pub record IsGrowable (set : DataSet) : Type 0 where
  pub whole : IsWhole set
  pub few : (volser : List ℕ) → length (pieces_on volser set.extents) ≤ most_extents

-- what is granted, as extents
abbrev pub added_of : Grant → List Extent
added_of grant = extents_at grant.volume.volser grant.pieces.items

-- where the data set may lie on more volumes, a further one of its storage group grants it, if one may be chosen
abbrev pub GrowsBeside : DeskState → DataSet → Option Grant → Type 0
GrowsBeside s set found =
    MatchBool (nat_lt (length (volumes_of set.extents)) set.volumes)
    (IsGrantAmong s (others_of s set (first_volume s set.extents)) (ask_more set) found)
    (found ≡ None)

-- the volume of the last extent grants it, or else a further one
abbrev pub Grows : DeskState → DataSet → Option Grant → Type 0
Grows s set found =
    MatchOption (growth_on s set (last_volume s set.extents))
    (GrowsBeside s set found)
    (λ added. option_map added_of found ≡ Some added)
