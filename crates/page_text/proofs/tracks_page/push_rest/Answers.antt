-- The parts stand one behind the other.
use Rattle.std.proofs.Common.{append_assoc, refl}
use Rattle.page_text.proofs.tracks_page.push_rest.Goals as goal

pub returns : goal.returns
returns c = rw (c.in_ok-push.ensures.items, c.in_ok-push_count_if.ensures, c.in_ok-extend_from_slice-3.ensures.items, c.in_ok-push_gaps.ensures, c.in_ok-extend_from_slice-2.ensures.items, c.in_ok-push_extents.ensures, c.in_ok-extend_from_slice.ensures.items) (simp append_assoc refl)
