-- The parts stand one behind the other.
use Rattle.std.proofs.Common.{append_assoc, refl}
use Rattle.page_text.proofs.shown_groups_page.push_rest.Goals as goal

pub returns : goal.returns
returns c = rw (c.in_ok-push.ensures.items, c.in_ok-push_count.ensures, c.in_ok-push_flag.ensures, c.from.ensures) (simp append_assoc refl)
