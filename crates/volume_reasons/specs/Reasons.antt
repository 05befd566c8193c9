-- Why a candidate volume doesn't stand in the primary list, and whether it may be chosen (docs/manual/rules.md, "The
-- lists").
use Rattle.std.specs.Prelude.{◌≡◌, ◌<◌, ◌+◌, ◌*◌, Bool, true, false, not, ◌&&◌, List, Option, None, Some}
use Rattle.std.specs.Prelude.{if◌then◌else◌}
use Rattle.std.specs.List.{list_all, list_any}
use Rattle.volume_lists.specs.Choice.{is_earlier, is_rejected}
use Rattle.volume_lists.specs.Listing.{is_enabled, listing_of}
use Rattle.volume_lists.specs.declared.lists.Listing.{Listing}
use Rattle.volume_lists.specs.declared.lists.Listing.TheVariants.{Primary, Secondary, Tertiary, Rejected}
use Rattle.volume_lists.specs.declared.lists.Why.TheVariants.{Group, Volume, Room}
use Rattle.volume_lists.specs.declared.view.VolView.{VolView}
use Rattle.volume_lists.specs.declared.view.Want.{Want}
use Rattle.volume_reasons.specs.declared.reason.Reason.{Reason}
use Rattle.volume_reasons.specs.declared.reason.Reason.TheVariants.{GroupStatus, VolumeStatus, NoRoom, FewVolumes}
use Rattle.volume_reasons.specs.declared.reason.Reason.TheVariants.{Overflow, Threshold}

-- the first test of the primary list that a secondary volume fails
abbrev pub hindrance_of : VolView → Reason
hindrance_of view =
    if not (is_enabled view.group_status) then GroupStatus
    else (if not (is_enabled view.status) then VolumeStatus
    else (if view.overflow then Overflow
    else Threshold))

-- why a volume of this list doesn't stand in the primary one
abbrev pub reason_in : Listing → VolView → Option Reason
reason_in Primary view = None
reason_in Secondary view = Some (hindrance_of view)
reason_in Tertiary view = Some FewVolumes
reason_in (Rejected Group) view = Some GroupStatus
reason_in (Rejected Volume) view = Some VolumeStatus
reason_in (Rejected Room) view = Some NoRoom

-- why a volume doesn't stand in the primary list
abbrev pub reason_of : Want → VolView → Option Reason
reason_of want view = reason_in (listing_of view want) view

-- the reason holds of the volume
abbrev pub HoldsOf : Reason → VolView → Want → Type 0
HoldsOf GroupStatus view want = is_enabled view.group_status ≡ false
HoldsOf VolumeStatus view want = is_enabled view.status ≡ false
HoldsOf NoRoom view want = view.fits ≡ false
HoldsOf FewVolumes view want = view.group_volumes < want.volumes
HoldsOf Overflow view want = view.overflow ≡ true
HoldsOf Threshold view want = view.high * view.capacity < (view.granted + want.need) * 100

-- the volume may be chosen among these: it isn't rejected, and none of them comes before it
abbrev pub may_be_chosen : List VolView → Want → VolView → Bool
may_be_chosen views want view =
    not (is_rejected (listing_of view want)) && not (list_any (λ other. is_earlier want other view) views)

-- no volume may be chosen: all are rejected
abbrev pub none_is_left : List VolView → Want → Bool
none_is_left views want = list_all (λ view. is_rejected (listing_of view want)) views
