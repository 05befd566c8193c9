-- The keys of replies and of statuses, and a number for each volume, as that of its tracks.
use Rattle.std.specs.Prelude.{ℕ, Bool, true, false, ◌≡◌, List, Option, None, Some, bytes_eq}
use Rattle.std.specs.Map.{lookup}
use Rattle.std.specs.Option.{unwrap_or}
use Rattle.sms_construct.specs.declared.target.Target.{Target}
use Rattle.sms_construct.specs.declared.target.Target.TheVariants as targets
use Rattle.sms_construct.specs.declared.volume.VolumeDef.{VolumeDef}
use Rattle.sms_keeper.specs.declared.kept_row.KeptRow.{KeptRow}
use Rattle.sms_keeper.specs.declared.request_key.RequestKey.{RequestKey}
use Rattle.desk_law.specs.Volumes.{tracks_of}

-- the key of a kept reply
abbrev pub key_of_row : KeptRow → RequestKey
key_of_row row = record { job = row.job; number = row.number }

-- the storage group of a target, if it is one
abbrev pub group_in : Target → Option (List ℕ)
group_in (targets.Group name) = Some name
group_in (targets.Volume volser) = None
group_in (targets.Set dsn) = None

-- the volume of a target, if it is one
abbrev pub volume_in : Target → Option (List ℕ)
volume_in (targets.Group name) = None
volume_in (targets.Volume volser) = Some volser
volume_in (targets.Set dsn) = None

-- the target is a data set
abbrev pub is_set : Target → Bool
is_set (targets.Group name) = false
is_set (targets.Volume volser) = false
is_set (targets.Set dsn) = true

-- the number of a volume, 0 where it has none
abbrev pub number_on : List ℕ → List (List ℕ × ℕ) → ℕ
number_on volser numbers = unwrap_or (lookup (bytes_eq volser) numbers) 0

-- the number of each volume is that of its tracks
abbrev pub AreTracks : List VolumeDef → List (List ℕ × ℕ) → Type 0
AreTracks volumes tracks = (volser : List ℕ) → number_on volser tracks ≡ tracks_of volser volumes
