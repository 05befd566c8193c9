-- Which running volume bars a configuration.
use Rattle.std.specs.Prelude.{Bool, ◌&&◌, nat_lt, List, Option, find}
use Rattle.sms_construct.specs.declared.volume.VolumeDef.{VolumeDef}
use Rattle.desk_law.specs.Volumes.{tracks_of}
use Rattle.sms_volumes.specs.declared.active_volume.ActiveVolume.{ActiveVolume}

-- the volume holds an extent, and it is missing among the others or has fewer tracks there
abbrev pub bars : List VolumeDef → ActiveVolume → Bool
bars others volume =
    nat_lt 0 volume.ledger.extents && nat_lt (tracks_of volume.volume.volser others) volume.volume.tracks

-- the first of the volumes that bars
abbrev pub running_barred : List VolumeDef → List ActiveVolume → Option ActiveVolume
running_barred others volumes = find (bars others) volumes
