-- The parts of a page of a volume are its JSON.
use Rattle.std.proofs.Common.{◌≡◌, ℕ, List, refl, append_assoc}
use Rattle.std.specs.Prelude.{Option}
use Rattle.json.specs.Print.{escape_byte}
use Rattle.sms_construct.specs.declared.vol_row.VolRow.{VolRow}
use Rattle.page_text.specs.declared.gap.Gap.{Gap}
use Rattle.page_text.specs.declared.set_extent.SetExtent.{SetExtent}
use Rattle.page_text.specs.TrackBodies.{gap_body, set_extent_body, tracks_body}
use Rattle.page_text.specs.Inner.TrackPieces.{gap_piece, set_extent_piece, tracks_text}

pub set_extent_is : (extent : SetExtent) → set_extent_piece extent ≡ set_extent_body extent
unfolding escape_byte
set_extent_is extent = refl

pub gap_is : (gap : Gap) → gap_piece gap ≡ gap_body gap
unfolding escape_byte
gap_is gap = refl

pub tracks_is : (row : VolRow) (extents : List SetExtent) (gaps : List Gap) (next : Option ℕ) → tracks_text row extents gaps next ≡ tracks_body row extents gaps next
unfolding escape_byte
tracks_is row extents gaps next = simp append_assoc refl
