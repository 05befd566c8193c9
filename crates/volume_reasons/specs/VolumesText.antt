-- Candidate volumes as text (docs/manual/tool.md, "Candidate volumes").
use Rattle.std.specs.Prelude.{◌+◌, ◌==◌, ◌++◌, ℕ, Bool, List, [], Option, None, Some, codes, decimal, flat_map}
use Rattle.std.specs.Prelude.{if◌then◌else◌}
use Rattle.sms_script.specs.NameText.{status_text}
use Rattle.volume_lists.specs.Listing.{listing_of}
use Rattle.volume_lists.specs.declared.lists.Listing.{Listing}
use Rattle.volume_lists.specs.declared.lists.Listing.TheVariants.{Primary, Secondary, Tertiary, Rejected}
use Rattle.volume_lists.specs.declared.view.VolView.{VolView}
use Rattle.volume_lists.specs.declared.view.Want.{Want}
use Rattle.volume_reasons.specs.Reasons.{may_be_chosen, none_is_left, reason_of}
use Rattle.volume_reasons.specs.declared.reason.Reason.{Reason}
use Rattle.volume_reasons.specs.declared.reason.Reason.TheVariants.{GroupStatus, VolumeStatus, NoRoom, FewVolumes}
use Rattle.volume_reasons.specs.declared.reason.Reason.TheVariants.{Overflow, Threshold}

-- the word of a list
abbrev pub list_text : Listing → List ℕ
list_text Primary = codes "PRIMARY"
list_text Secondary = codes "SECONDARY"
list_text Tertiary = codes "TERTIARY"
list_text (Rejected why) = codes "REJECTED"

-- the words of a reason, each behind a blank
abbrev pub reason_text : Reason → VolView → List ℕ
reason_text GroupStatus view = codes " GROUP " ++ status_text view.group_status
reason_text VolumeStatus view = codes " VOLUME " ++ status_text view.status
reason_text NoRoom view = codes " NO ROOM"
reason_text FewVolumes view = codes " FEW VOLUMES"
reason_text Overflow view = codes " OVERFLOW"
reason_text Threshold view = codes " THRESHOLD " ++ decimal view.high

-- those of a reason, if there is one
abbrev pub reason_if : Option Reason → VolView → List ℕ
reason_if None view = []
reason_if (Some reason) view = reason_text reason view

-- the tier, counted from 1, of a volume that isn't of the first
abbrev pub tier_text : ℕ → List ℕ
tier_text tier = if tier == 0 then [] else codes " TIER " ++ decimal (tier + 1)

-- whether the volume may be chosen
abbrev pub choice_text : Bool → List ℕ
choice_text may = if may then codes " MAY BE CHOSEN" else []

-- the serial of a volume, its storage group and its tracks
abbrev pub front_text : VolView → List ℕ
front_text view =
    codes "  VOLUME " ++ view.volser ++ codes " " ++ view.group ++ codes " " ++ decimal view.capacity ++ codes " "

-- the list in which a volume stands, and why
abbrev pub standing_text : Want → VolView → List ℕ
standing_text want view =
    list_text (listing_of view want) ++ reason_if (reason_of want view) view ++ tier_text view.tier

-- the line of a volume that may be chosen, or that may not
abbrev pub line_text : Want → VolView → Bool → List ℕ
line_text want view may = front_text view ++ standing_text want view ++ choice_text may ++ codes "\n"

-- the line of one of these volumes
abbrev pub volume_text : List VolView → Want → VolView → List ℕ
volume_text views want view = line_text want view (may_be_chosen views want view)

-- the line of what is asked: so many tracks, for a data set of so many volumes
abbrev pub asked_text : Want → List ℕ
asked_text want = codes "  ASKED TRACKS " ++ decimal want.need ++ codes " VOLUMES " ++ decimal want.volumes ++ codes "\n"

-- the line behind volumes of which none may be chosen
abbrev pub none_text : Bool → List ℕ
none_text none = if none then codes "  NO VOLUME\n" else []

-- what is told of the candidates for what is asked
abbrev pub views_text : List VolView → Want → List ℕ
views_text views want =
    asked_text want ++ flat_map (volume_text views want) views ++ none_text (none_is_left views want)
