-- A storage group or a volume with another status.
use Rattle.std.specs.Prelude.{ℕ, List, bytes_eq, if◌then◌else◌}
use Rattle.sms_construct.specs.declared.status.Status.{Status}
use Rattle.sms_volumes.specs.declared.active_group.ActiveGroup.{ActiveGroup}
use Rattle.sms_volumes.specs.declared.active_volume.ActiveVolume.{ActiveVolume}

-- the group, with the status where it has the name
abbrev pub varied_group : List ℕ → Status → ActiveGroup → ActiveGroup
varied_group name status group = record {
  group = group.group;
  status = if bytes_eq group.group.name name then status else group.status;
  volumes = group.volumes;
}

-- the volume, with the status where it has the serial
abbrev pub varied_volume : List ℕ → Status → ActiveVolume → ActiveVolume
varied_volume volser status volume = record {
  volume = volume.volume;
  status = if bytes_eq volume.volume.volser volser then status else volume.status;
  group = volume.group;
  ledger = volume.ledger;
}
