-- What is asked of volumes, which of them a data set gets, and what it grants (docs/manual/rules.md, "The lists", "The
-- gap rule").
use Rattle.std.specs.Prelude.{ℕ, ◌+◌, ◌%◌, ◌<◌, ◌≡◌, ◌⊎◌, Bool, false, List, [], ◌∷◌, bytes_eq, length, map, slice_get}
use Rattle.std.specs.Prelude.{Option, None, Some, is_some, if◌then◌else◌}
use Rattle.sms_construct.specs.Quantities.{tracks_in}
use Rattle.sms_construct.specs.declared.eattr.Eattr.{Eattr}
use Rattle.sms_construct.specs.declared.storage_group.StorGroup.{StorGroup}
use Rattle.sms_construct.specs.declared.unit.Unit.{Unit as SpaceUnit}
use Rattle.sms_construct.specs.declared.volume.VolumeDef.{VolumeDef}
use Rattle.track_ledger.specs.declared.need.Need.{Need}
use Rattle.track_ledger.specs.declared.piece.Piece.{Piece}
use Rattle.track_ledger.specs.Need.{grant_beside}
use Rattle.volume_lists.specs.declared.view.VolView.{VolView}
use Rattle.volume_lists.specs.declared.view.Want.{Want}
use Rattle.volume_lists.specs.Choice.{AllRejected, MayChoose}
use Rattle.desk_law.specs.State.{DeskState}
use Rattle.desk_law.specs.Extents.{granted_on, held_on}
use Rattle.desk_law.specs.Statuses.{group_status, volume_status}
use Rattle.desk_law.specs.Volumes.{group_named, volumes_of_group}

-- what is asked of volumes: so many tracks, in a unit, for a data set that may lie on so many volumes and on such space
pub record Ask : Type 0 where
  pub unit : SpaceUnit
  pub tracks : ℕ
  pub volumes : ℕ
  pub eattr : Eattr
  -- the storage groups in their order, where the order counts
  pub tiers : List (List ℕ)

-- at least one track is asked for, in whole units
pub record IsSoundAsk (ask : Ask) : Type 0 where
  pub some : 0 < ask.tracks
  pub whole : ask.tracks % tracks_in ask.unit ≡ 0

-- whether the storage group is an overflow group
abbrev pub is_overflow : Option StorGroup → Bool
is_overflow None = false
is_overflow (Some group) = group.overflow

-- its high threshold
abbrev pub high_of : Option StorGroup → ℕ
high_of None = 0
high_of (Some group) = group.high

-- its breakpoint
abbrev pub breakpoint_of : Option StorGroup → ℕ
breakpoint_of None = 0
breakpoint_of (Some group) = group.breakpoint

-- what the data set needs of this volume, where it holds so many extents; the breakpoint is that of the volume's own
-- group
abbrev pub need_on : DeskState → VolumeDef → Ask → ℕ → Need
need_on s volume ask held = record {
  unit = ask.unit;
  tracks = ask.tracks;
  held = held;
  eattr = ask.eattr;
  breakpoint = breakpoint_of (group_named s volume.group);
}

-- what the gap rule grants on the volume to a data set that holds so many extents there
abbrev pub grant_on : DeskState → VolumeDef → Ask → ℕ → Option (List Piece)
grant_on s volume ask held = grant_beside volume.tracks (held_on s volume.volser) (need_on s volume ask held)

-- the position of a storage group among these; 0 where there are none
abbrev pub tier_among : List (List ℕ) → List ℕ → ℕ
tier_among [] name = 0
tier_among (group ∷ groups) name = if bytes_eq group name then 0 else tier_among groups name + 1

-- the volume as it stands when one is to be chosen for a data set that has no extent there
abbrev pub view_of : DeskState → Ask → VolumeDef → VolView
view_of s ask volume = record {
  volser = volume.volser;
  group = volume.group;
  group_status = group_status s volume.group;
  status = volume_status s volume.volser;
  overflow = is_overflow (group_named s volume.group);
  high = high_of (group_named s volume.group);
  capacity = volume.tracks;
  granted = granted_on s volume.volser;
  group_volumes = length (volumes_of_group s volume.group);
  fits = is_some (grant_on s volume ask 0);
  tier = tier_among ask.tiers volume.group;
}

-- what the lists look at: the tracks as they are asked for, and the number of volumes
abbrev pub want_of : Ask → Want
want_of ask = record { need = ask.tracks; volumes = ask.volumes }

-- a volume at a position that may be chosen, and this of it
pub record Chooses (candidates : List VolumeDef) (views : List VolView) (want : Want) (chosen : VolumeDef → Type 0)
    : Type 0 where
  pub position : ℕ
  pub may : MayChoose views want position
  pub volume : VolumeDef
  pub there : slice_get candidates position ≡ Some volume
  pub does : chosen volume

-- all candidates are rejected and the one; or one that may be chosen, and the other of it
abbrev pub Chosen : DeskState → Ask → List VolumeDef → Type 0 → (VolumeDef → Type 0) → Type 0
Chosen s ask candidates rejected chosen =
    (AllRejected (map (view_of s ask) candidates) (want_of ask) × rejected)
    ⊎ Chooses candidates (map (view_of s ask) candidates) (want_of ask) chosen
