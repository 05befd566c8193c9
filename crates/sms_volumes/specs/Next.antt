-- The volumes of a configuration that is to become active.
use Rattle.std.specs.Prelude.{ℕ, ◌≡◌, List, [], Some, length, map, filter, find, bytes_eq, slice_get}
use Rattle.std.specs.List.{AllByRecursion}
use Rattle.sms_construct.specs.Configuration.{Configuration}
use Rattle.sms_keeper.specs.declared.status_row.StatusRow.{StatusRow}
use Rattle.desk_law.specs.Activation.{row_of_group, row_of_volume}
use Rattle.track_ledger.specs.Ledger.{IsLedgerOf}
use Rattle.sms_volumes.specs.declared.active_group.ActiveGroup.{ActiveGroup}
use Rattle.sms_volumes.specs.declared.active_volume.ActiveVolume.{ActiveVolume}
use Rattle.sms_volumes.specs.declared.active_volumes.ActiveVolumes.{ActiveVolumes}

-- the status that the group has among these rows, else the one that its deck gives, and the number of its volumes
pub record IsNextGroup (present : List StatusRow) (config : Configuration) (group : ActiveGroup) : Type 0 where
  pub status : group.status ≡ (row_of_group present group.group).status
  pub volumes : group.volumes ≡ length (filter (λ volume. bytes_eq volume.group group.group.name) config.volumes)

-- the group at this place is the storage group of this name in the configuration
pub record IsPlaceIn (groups : List ActiveGroup) (config : Configuration) (place : ℕ) (name : List ℕ) : Type 0 where
  pub group : ActiveGroup
  pub there : slice_get groups place ≡ Some group
  pub named : find (λ other. bytes_eq other.name name) config.groups ≡ Some group.group

-- the status likewise, the place of its group, and all its tracks free
pub record IsNextVolume (present : List StatusRow) (config : Configuration) (groups : List ActiveGroup)
    (volume : ActiveVolume) : Type 0 where
  pub status : volume.status ≡ (row_of_volume present volume.volume).status
  pub group : IsPlaceIn groups config volume.group volume.volume.group
  pub capacity : volume.ledger.capacity ≡ volume.volume.tracks
  pub free : IsLedgerOf [] volume.ledger

-- the storage groups and volumes of the configuration as they will be, but for the tracks that data sets hold
pub record AreNext (present : List StatusRow) (config : Configuration) (next : ActiveVolumes) : Type 0 where
  pub groups_are : map (λ group. group.group) next.groups.items ≡ config.groups
  pub volumes_are : map (λ volume. volume.volume) next.volumes.items ≡ config.volumes
  pub each_group : AllByRecursion (IsNextGroup present config) next.groups.items
  pub each_volume : AllByRecursion (IsNextVolume present config next.groups.items) next.volumes.items
