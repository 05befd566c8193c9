-- The parts stand one behind the other.
use Rattle.std.proofs.Common.{append_assoc, refl}
use Rattle.page_text.proofs.answers_page.push_front.Goals as goal

pub returns : goal.returns
returns c = rw (c.in_ok-push_count-3.ensures, c.in_ok-push_text.ensures, c.in_ok-push_count-2.ensures, c.in_ok-push_count.ensures, c.from.ensures, c.get.ensures.value, c.bytes.ensures.bytes) (simp append_assoc refl)
