-- The parts stand one behind the other.
use Rattle.std.proofs.Common.{append_assoc, refl}
use Rattle.page_text.proofs.shown_groups_page.push_limits.Goals as goal

pub returns : goal.returns
returns c = rw (c.in_ok-push_rest.ensures, c.in_ok-push_thresholds.ensures) (simp append_assoc refl)
