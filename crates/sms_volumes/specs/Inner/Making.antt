-- How the volumes of a configuration that is to become active are made from the running ones.
use Rattle.std.specs.Prelude.{◌≡◌, List, [], Option, None, Some, length, filter, find, bytes_eq, slice_get}
use Rattle.sms_construct.specs.declared.status.Status.{Status}
use Rattle.sms_construct.specs.declared.storage_group.StorGroup.{StorGroup}
use Rattle.sms_construct.specs.declared.volume.VolumeDef.{VolumeDef}
use Rattle.sms_volumes.specs.Inner.Showing.{group_in}
use Rattle.sms_volumes.specs.Viewing.{running_named}
use Rattle.track_ledger.specs.Ledger.{IsLedgerOf}
use Rattle.sms_volumes.specs.declared.active_group.ActiveGroup.{ActiveGroup}
use Rattle.sms_volumes.specs.declared.active_volume.ActiveVolume.{ActiveVolume}

-- the status of the running group, if there is one, else the one that the deck gives
abbrev pub status_of_group : StorGroup → Option ActiveGroup → Status
status_of_group group None = group.status
status_of_group group (Some running) = running.status

-- the status of the running volume likewise
abbrev pub status_of_volume : VolumeDef → Option ActiveVolume → Status
status_of_volume volume None = volume.status
status_of_volume volume (Some running) = running.status

-- the group after these running ones, beside these volumes of its configuration
abbrev pub next_group : List ActiveGroup → List VolumeDef → StorGroup → ActiveGroup
next_group running volumes group = record {
  group = group;
  status = status_of_group group (group_in group.name running);
  volumes = length (filter (λ volume. bytes_eq volume.group group.name) volumes);
}

-- the volume after these running ones, beside these groups of its configuration, with all its tracks free
pub record IsMade (running : List ActiveVolume) (groups : List StorGroup) (volume : ActiveVolume) : Type 0 where
  pub status : volume.status ≡ status_of_volume volume.volume (running_named volume.volume.volser running)
  pub group : slice_get groups volume.group ≡ find (λ group. bytes_eq group.name volume.volume.group) groups
  pub capacity : volume.ledger.capacity ≡ volume.volume.tracks
  pub free : IsLedgerOf [] volume.ledger
