-- When the running volumes stand for a state of the desk: they hold what its data sets hold, with its statuses.
use Rattle.std.specs.Prelude.{ℕ, ◌≡◌, List, Some, length, map, slice_get}
use Rattle.std.specs.List.{AllByRecursion}
use Rattle.track_ledger.specs.Ledger.{IsLedgerOf}
use Rattle.desk_law.specs.State.{DeskState}
use Rattle.desk_law.specs.Extents.{held_on}
use Rattle.desk_law.specs.Lawful.{IsLawful}
use Rattle.desk_law.specs.Statuses.{group_status, volume_status}
use Rattle.desk_law.specs.Volumes.{group_named, groups_in, volumes_in, volumes_of_group}
use Rattle.sms_volumes.specs.declared.active_group.ActiveGroup.{ActiveGroup}
use Rattle.sms_volumes.specs.declared.active_volume.ActiveVolume.{ActiveVolume}
use Rattle.sms_volumes.specs.declared.active_volumes.ActiveVolumes.{ActiveVolumes}

-- a storage group with its present status and the number of its volumes
pub record IsGroupOf (s : DeskState) (group : ActiveGroup) : Type 0 where
  pub status : group.status ≡ group_status s group.group.name
  pub volumes : group.volumes ≡ length (volumes_of_group s group.group.name)

-- the group at a place is the storage group of this name
pub record StandsAt (s : DeskState) (groups : List ActiveGroup) (place : ℕ) (name : List ℕ) : Type 0 where
  pub group : ActiveGroup
  pub there : slice_get groups place ≡ Some group
  pub named : group_named s name ≡ Some group.group

-- a volume with its present status, its storage group and the ledger of what the data sets hold on it
pub record IsVolumeOf (s : DeskState) (groups : List ActiveGroup) (volume : ActiveVolume) : Type 0 where
  pub status : volume.status ≡ volume_status s volume.volume.volser
  pub group : StandsAt s groups volume.group volume.volume.group
  pub capacity : volume.ledger.capacity ≡ volume.volume.tracks
  pub ledger : IsLedgerOf (held_on s volume.volume.volser) volume.ledger

-- the storage groups and volumes of the active configuration, in its order, as they stand in this state
pub record AreVolumesOf (s : DeskState) (running : ActiveVolumes) : Type 0 where
  pub groups_are : map (λ group. group.group) running.groups.items ≡ groups_in s.active
  pub volumes_are : map (λ volume. volume.volume) running.volumes.items ≡ volumes_in s.active
  pub each_group : AllByRecursion (IsGroupOf s) running.groups.items
  pub each_volume : AllByRecursion (IsVolumeOf s running.groups.items) running.volumes.items

-- the running volumes stand for some lawful state
pub record StandForSome (running : ActiveVolumes) : Type 0 where
  pub state : DeskState
  pub lawful : IsLawful state
  pub stand : AreVolumesOf state running
