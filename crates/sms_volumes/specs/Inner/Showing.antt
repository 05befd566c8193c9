-- What is shown of a running volume and of a running storage group.
use Rattle.std.specs.Prelude.{ℕ, List, bytes_eq, filter, find, Option, sum_by}
use Rattle.sms_construct.specs.declared.view.View.{View}
use Rattle.sms_construct.specs.declared.view.View.TheVariants as views
use Rattle.sms_construct.specs.declared.vol_row.VolRow.{VolRow}
use Rattle.track_ledger.specs.Extents.{tracks_held}
use Rattle.sms_volumes.specs.declared.active_group.ActiveGroup.{ActiveGroup}
use Rattle.sms_volumes.specs.declared.active_volume.ActiveVolume.{ActiveVolume}
use Rattle.sms_volumes.specs.declared.active_volumes.ActiveVolumes.{ActiveVolumes}

-- the tracks of a volume that are free
abbrev pub running_free : ActiveVolume → ℕ
running_free volume = tracks_held volume.ledger.gaps

-- the volume as reports show it
abbrev pub running_row : ActiveVolume → VolRow
running_row volume = record {
  volser = volume.volume.volser;
  group = volume.volume.group;
  status = volume.status;
  capacity = volume.volume.tracks;
  free = running_free volume;
  extents = volume.ledger.extents;
}

-- the running volumes of a storage group
abbrev pub running_in : List ℕ → List ActiveVolume → List ActiveVolume
running_in name volumes = filter (λ volume. bytes_eq volume.volume.group name) volumes

-- their tracks
abbrev pub capacity_in : List ℕ → List ActiveVolume → ℕ
capacity_in name volumes = sum_by (λ volume. volume.volume.tracks) (running_in name volumes)

-- their free tracks
abbrev pub free_in : List ℕ → List ActiveVolume → ℕ
free_in name volumes = sum_by running_free (running_in name volumes)

-- the running storage group of a name
abbrev pub group_in : List ℕ → List ActiveGroup → Option ActiveGroup
group_in name groups = find (λ group. bytes_eq group.group.name name) groups

-- the group as DISPLAY shows it
abbrev pub running_group : ActiveVolumes → ActiveGroup → View
running_group running group =
    views.Group group.group.name group.status group.volumes
    (capacity_in group.group.name running.volumes.items) (free_in group.group.name running.volumes.items)
