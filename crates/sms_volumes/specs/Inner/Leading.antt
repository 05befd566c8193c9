-- The volume that leads among those looked at so far, while one is chosen.
use Rattle.std.specs.Prelude.{ℕ, Bool, ◌≡◌, ◌-◌, ◌<◌, ◌≤◌, true, false, List, Some, MatchOption, filter, length, map}
use Rattle.std.specs.Prelude.{slice_get}
use Rattle.std.specs.List.{list_any}
use Rattle.desk_common.specs.Limits.{most_pieces}
use Rattle.sms_construct.specs.declared.volume.VolumeDef.{VolumeDef}
use Rattle.track_ledger.specs.Extents.{tracks_held}
use Rattle.volume_lists.specs.Choice.{comes_before, rank_of}
use Rattle.volume_lists.specs.Listing.{listing_of}
use Rattle.volume_lists.specs.declared.view.VolView.{VolView}
use Rattle.desk_law.specs.State.{DeskState}
use Rattle.desk_law.specs.Candidates.{grant_on, tier_among, view_of, want_of}
use Rattle.sms_volumes.specs.Asking.{ask_of}
use Rattle.sms_volumes.specs.Changing.{IsFree}
use Rattle.sms_volumes.specs.Viewing.{is_candidate}
use Rattle.sms_volumes.specs.declared.active_group.ActiveGroup.{ActiveGroup}
use Rattle.sms_volumes.specs.declared.active_volume.ActiveVolume.{ActiveVolume}
use Rattle.sms_volumes.specs.declared.active_volumes.ActiveVolumes.{ActiveVolumes}
use Rattle.sms_volumes.specs.declared.asked.Asked.{Asked}
use Rattle.sms_volumes.specs.declared.candidates.Candidates.{Candidates}
use Rattle.sms_volumes.specs.declared.lead.Lead.{Lead}
use Rattle.sms_volumes.specs.declared.pick.Pick.{Pick}

-- the volume in its storage group as it would stand if it had room
abbrev pub view_in : Asked → ActiveVolume → ActiveGroup → VolView
view_in asked volume group = record {
  volser = volume.volume.volser;
  group = volume.volume.group;
  group_status = group.status;
  status = volume.status;
  overflow = group.group.overflow;
  high = group.group.high;
  capacity = volume.volume.tracks;
  granted = volume.ledger.capacity - tracks_held volume.ledger.gaps;
  group_volumes = group.volumes;
  fits = true;
  tier = tier_among asked.tiers.now volume.volume.group;
}

-- the candidates among these volumes
abbrev pub candidates_among : Candidates → List ActiveVolume → List VolumeDef
candidates_among candidates volumes = filter (is_candidate candidates) (map (λ volume. volume.volume) volumes)

-- the rank of the list in which the volume stands
abbrev pub rank_on : DeskState → Asked → VolumeDef → ℕ
rank_on s asked volume = rank_of (listing_of (view_of s (ask_of asked) volume) (want_of (ask_of asked)))

-- the volume comes before the lead
abbrev pub before_lead : DeskState → Asked → Lead → VolumeDef → Bool
before_lead s asked lead volume =
    comes_before (rank_on s asked volume) (tier_among asked.tiers.now volume.group) lead.rank lead.tier

-- a volume that stands in a list of the lead's rank, with its tier, and that grants these pieces
pub record IsLeading (s : DeskState) (running : ActiveVolumes) (looked_at : List VolumeDef) (asked : Asked)
    (lead : Lead)
    (pick : Pick) : Type 0 where
  pub position : ℕ
  pub volume : ActiveVolume
  pub at : slice_get running.volumes.items pick.place ≡ Some volume
  pub there : slice_get looked_at position ≡ Some volume.volume
  pub granted : grant_on s volume.volume (ask_of asked) 0 ≡ Some pick.grant.items
  pub free : IsFree volume pick.grant.items
  pub few : length pick.grant.items ≤ most_pieces
  pub rank : rank_on s asked volume.volume ≡ lead.rank
  pub tier : tier_among asked.tiers.now volume.volume.group ≡ lead.tier
  pub listed : lead.rank < 4

-- none of the volumes comes before the lead, which is one of them, or behind all lists
pub record Leads (s : DeskState) (running : ActiveVolumes) (looked_at : List VolumeDef) (asked : Asked) (lead : Lead)
    : Type 0 where
  pub first : list_any (before_lead s asked lead) looked_at ≡ false
  pub pick : MatchOption lead.pick ((lead.rank ≡ 4) × (lead.tier ≡ 0)) (IsLeading s running looked_at asked lead)
