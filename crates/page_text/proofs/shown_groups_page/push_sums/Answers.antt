-- The parts stand one behind the other.
use Rattle.std.proofs.Common.{append_assoc, refl}
use Rattle.page_text.proofs.shown_groups_page.push_sums.Goals as goal

pub returns : goal.returns
returns c = rw (c.in_ok-push_count-3.ensures, c.in_ok-push_count-2.ensures, c.in_ok-push_count.ensures, c.in_ok-push_text.ensures, c.bytes.ensures.bytes) (simp append_assoc refl)
