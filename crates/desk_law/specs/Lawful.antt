-- What holds of each state that a legal history reaches.
use Rattle.std.specs.Prelude.{ℕ, true, ◌%◌, ◌≡◌, ◌≤◌, ◌<◌, ◌+◌, ◌⊎◌, List, [], ◌∷◌, length, IfSome, if◌then◌else◌}
use Rattle.std.specs.List.{AllByRecursion}
use Rattle.desk_common.specs.Limits.{border, most_extents}
use Rattle.sms_construct.specs.Configuration.{IsConfiguration}
use Rattle.sms_construct.specs.Quantities.{tracks_in, tracks_in_managed}
use Rattle.sms_construct.specs.declared.data_set.DataSet.{DataSet}
use Rattle.sms_construct.specs.declared.extent.Extent.{Extent}
use Rattle.sms_construct.specs.declared.target.Target.{Target}
use Rattle.sms_construct.specs.declared.volume.VolumeDef.{VolumeDef}
use Rattle.sms_keeper.specs.Tables.{is_named}
use Rattle.track_ledger.specs.Extents.{LiesInside}
use Rattle.track_ledger.specs.Gaps.{times_held}
use Rattle.desk_law.specs.State.{DeskState, Opening, start_of}
use Rattle.desk_law.specs.Extents.{held_on, piece_of, pieces_on, volumes_of}
use Rattle.desk_law.specs.Statuses.{may_have, times_status}
use Rattle.desk_law.specs.Volumes.{times_target, tracks_of, volumes_in}

-- the extent isn't empty and lies inside its volume
abbrev pub IsInside : List VolumeDef → Extent → Type 0
IsInside volumes extent = LiesInside (tracks_of extent.volser volumes) (piece_of extent)

-- the extent lies in the cylinder-managed part of its volume, in whole units of it
pub record IsManaged (extent : Extent) : Type 0 where
  pub behind : border ≤ extent.start
  pub start : extent.start % tracks_in_managed ≡ 0
  pub length : extent.length % tracks_in_managed ≡ 0

-- the extent doesn't meet the border of the two parts: it ends there or before, or it is cylinder-managed
abbrev pub LiesInPart : Extent → Type 0
LiesInPart extent = (extent.start + extent.length ≤ border) ⊎ IsManaged extent

-- the secondary quantity of the data set is in whole units of its space
abbrev pub IsWhole : DataSet → Type 0
IsWhole set = set.secondary % tracks_in set.unit ≡ 0

-- a data set that may stand in a configuration with these volumes
pub record IsLawfulSet (volumes : List VolumeDef) (set : DataSet) : Type 0 where
  -- it has an extent, and each lies inside its volume and in one part of it
  pub some : 0 < length set.extents
  pub inside : AllByRecursion (IsInside volumes) set.extents
  pub parted : AllByRecursion LiesInPart set.extents
  -- on each volume it has at most 16
  pub few : (volser : List ℕ) → length (pieces_on volser set.extents) ≤ most_extents
  pub whole : IsWhole set

-- the data set lies on at most as many volumes as it may, which a desk's own grants see to
abbrev pub IsSpread : DataSet → Type 0
IsSpread set = length (volumes_of set.extents) ≤ set.volumes

-- how many data sets have the name
abbrev pub times_named : List ℕ → List DataSet → ℕ
times_named dsn [] = 0
times_named dsn (set ∷ sets) = (if is_named dsn set then 1 else 0) + times_named dsn sets

-- a lawful state of the desk
pub record IsLawful (s : DeskState) : Type 0 where
  -- each data set may stand in the active configuration
  pub sets : AllByRecursion (IsLawfulSet (volumes_in s.active)) s.sets
  -- no track of a volume is held twice
  pub once : (volser : List ℕ) (track : ℕ) → times_held (held_on s volser) track ≤ 1
  -- no name stands twice
  pub names : (dsn : List ℕ) → times_named dsn s.sets ≤ 1
  -- each storage group and volume of the active configuration has one status, and nothing else has any
  pub statuses : (target : Target) → times_status target s.statuses ≡ times_target s.active target
  -- no volume has the status NOTCON
  pub connected : AllByRecursion (λ row. may_have row.target row.status ≡ true) s.statuses
  -- the active configuration is one
  pub config : IfSome s.active IsConfiguration

-- an opening from which a desk may go on in a lawful way
abbrev pub IsLawfulOpening : Opening → Type 0
IsLawfulOpening o = IsLawful (start_of o)
