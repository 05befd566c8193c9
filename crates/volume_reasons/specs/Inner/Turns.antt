-- How early volumes are looked at.
use Rattle.std.specs.Prelude.{◌&&◌, Bool, List, ℕ, not, nat_lt}
use Rattle.volume_lists.specs.Choice.{comes_before, rank_of}
use Rattle.volume_lists.specs.Listing.{listing_of}
use Rattle.volume_lists.specs.declared.view.VolView.{VolView}
use Rattle.volume_lists.specs.declared.view.Want.{Want}
use Rattle.volume_reasons.specs.VolumesText.{line_text}
use Rattle.volume_reasons.specs.declared.turn.Turn.{Turn}

-- the turn of a volume: the rank of its list, and its tier there
abbrev pub turn_of : Want → VolView → Turn
turn_of want view = record { rank = rank_of (listing_of view want); tier = view.tier }

-- the volume stands in a list, and this turn doesn't come before its own
abbrev pub has_turn : Turn → Want → VolView → Bool
has_turn turn want view =
    nat_lt (rank_of (listing_of view want)) 4
    && not (comes_before turn.rank turn.tier (rank_of (listing_of view want)) view.tier)

-- the line of a volume where this is the earliest turn
abbrev pub turn_text : Turn → Want → VolView → List ℕ
turn_text turn want view = line_text want view (has_turn turn want view)
