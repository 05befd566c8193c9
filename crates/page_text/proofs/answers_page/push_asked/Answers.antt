-- The parts stand one behind the other.
use Rattle.std.proofs.Common.{append_assoc, refl}
use Rattle.page_text.proofs.answers_page.push_asked.Goals as goal

pub returns : goal.returns
returns c = rw (c.in_ok-push_name.ensures, c.in_ok-extend_from_slice.ensures.items, c.in_ok-push_text.ensures, c.word_of.ensures) (simp append_assoc refl)
