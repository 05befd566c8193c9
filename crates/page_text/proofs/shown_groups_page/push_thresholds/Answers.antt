-- The parts stand one behind the other.
use Rattle.std.proofs.Common.{append_assoc, refl}
use Rattle.page_text.proofs.shown_groups_page.push_thresholds.Goals as goal

pub returns : goal.returns
returns c = rw (c.in_ok-push_count-2.ensures, c.in_ok-push_count.ensures, c.from-2.ensures, c.from.ensures) (simp append_assoc refl)
