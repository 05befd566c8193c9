-- A running volume as the lists see it.
use Rattle.std.specs.Prelude.{◌-◌, ℕ, Bool, List, bytes_eq, filter, map}
use Rattle.std.specs.List.{list_any}
use Rattle.desk_law.specs.Candidates.{tier_among}
use Rattle.sms_construct.specs.declared.volume.VolumeDef.{VolumeDef}
use Rattle.sms_volumes.specs.declared.active_group.ActiveGroup.{ActiveGroup}
use Rattle.sms_volumes.specs.declared.active_volume.ActiveVolume.{ActiveVolume}
use Rattle.sms_volumes.specs.declared.asked.Asked.{Asked}
use Rattle.track_ledger.specs.Extents.{tracks_held}
use Rattle.volume_lists.specs.declared.view.VolView.{VolView}

-- the volume in its storage group, with room for what is asked or without
abbrev pub view_as : Asked → ActiveVolume → ActiveGroup → Bool → VolView
view_as asked volume group fits = record {
  volser = volume.volume.volser;
  group = volume.volume.group;
  group_status = group.status;
  status = volume.status;
  overflow = group.group.overflow;
  high = group.group.high;
  capacity = volume.volume.tracks;
  granted = volume.ledger.capacity - tracks_held volume.ledger.gaps;
  group_volumes = group.volumes;
  fits = fits;
  tier = tier_among asked.tiers.now volume.volume.group;
}

-- the volume is one of these storage groups
abbrev pub is_listed : List (List ℕ) → VolumeDef → Bool
is_listed groups volume = list_any (bytes_eq volume.group) groups

-- the volumes of these storage groups among these running ones
abbrev pub listed_among : List (List ℕ) → List ActiveVolume → List VolumeDef
listed_among groups volumes = filter (is_listed groups) (map (λ volume. volume.volume) volumes)
