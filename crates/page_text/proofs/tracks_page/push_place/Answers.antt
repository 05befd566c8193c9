-- The parts stand one behind the other.
use Rattle.std.proofs.Common.{append_assoc, refl}
use Rattle.page_text.proofs.tracks_page.push_place.Goals as goal

pub returns : goal.returns
returns c = rw (c.in_ok-push.ensures.items, c.in_ok-push_count-2.ensures, c.in_ok-push_count.ensures, c.in_ok-push_text.ensures, c.from-2.ensures, c.from.ensures, c.bytes.ensures.bytes) (simp append_assoc refl)
