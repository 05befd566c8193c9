-- The parts stand one behind the other.
use Rattle.std.proofs.Common.{append_assoc, refl}
use Rattle.page_text.proofs.tracks_page.push_page.Goals as goal

pub returns : goal.returns
returns c = rw (c.in_ok-push_rest.ensures, c.in_ok-push_figures.ensures, c.in_ok-push_front.ensures) (simp append_assoc refl)
