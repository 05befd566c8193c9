-- The storage groups and volumes of the active configuration.
use Rattle.std.specs.Prelude.{ℕ, ◌+◌, ◌-◌, List, [], ◌∷◌, bytes_eq, filter, find, Option, None, Some, if◌then◌else◌}
use Rattle.sms_construct.specs.Configuration.{Configuration}
use Rattle.sms_construct.specs.declared.storage_group.StorGroup.{StorGroup}
use Rattle.sms_construct.specs.declared.target.Target.{Target}
use Rattle.sms_construct.specs.declared.target.Target.TheVariants as targets
use Rattle.sms_construct.specs.declared.volume.VolumeDef.{VolumeDef}
use Rattle.desk_law.specs.State.{DeskState}
use Rattle.desk_law.specs.Extents.{granted_on}

-- the volumes
abbrev pub volumes_in : Option Configuration → List VolumeDef
volumes_in None = []
volumes_in (Some config) = config.volumes

-- the storage groups
abbrev pub groups_in : Option Configuration → List StorGroup
groups_in None = []
groups_in (Some config) = config.groups

-- the tracks of a volume, 0 where there is none such
abbrev pub tracks_of : List ℕ → List VolumeDef → ℕ
tracks_of volser [] = 0
tracks_of volser (volume ∷ volumes) = if bytes_eq volume.volser volser then volume.tracks else tracks_of volser volumes

-- the volume of this serial
abbrev pub volume_named : DeskState → List ℕ → Option VolumeDef
volume_named s volser = find (λ volume. bytes_eq volume.volser volser) (volumes_in s.active)

-- the storage group of this name
abbrev pub group_named : DeskState → List ℕ → Option StorGroup
group_named s name = find (λ group. bytes_eq group.name name) (groups_in s.active)

-- the volumes of a storage group
abbrev pub volumes_of_group : DeskState → List ℕ → List VolumeDef
volumes_of_group s name = filter (λ volume. bytes_eq volume.group name) (volumes_in s.active)

-- the tracks of a volume that no data set holds
abbrev pub free_on : DeskState → VolumeDef → ℕ
free_on s volume = volume.tracks - granted_on s volume.volser

-- how often the volume serial stands among volumes
abbrev pub times_volume : List ℕ → List VolumeDef → ℕ
times_volume volser [] = 0
times_volume volser (volume ∷ volumes) = (if bytes_eq volume.volser volser then 1 else 0) + times_volume volser volumes

-- how often the name stands among storage groups
abbrev pub times_group : List ℕ → List StorGroup → ℕ
times_group name [] = 0
times_group name (group ∷ groups) = (if bytes_eq group.name name then 1 else 0) + times_group name groups

-- how often the configuration has the storage group or the volume; a data set isn't in it
abbrev pub times_target : Option Configuration → Target → ℕ
times_target active (targets.Group name) = times_group name (groups_in active)
times_target active (targets.Volume volser) = times_volume volser (volumes_in active)
times_target active (targets.Set dsn) = 0
