-- The parts stand one behind the other.
use Rattle.std.proofs.Common.{append_assoc, refl}
use Rattle.deck_changes.proofs.construct.push_thresholds.Goals as goal

pub returns : goal.returns
returns c = rw (c.in_ok-push_numbered-2.ensures, c.in_ok-push_numbered.ensures, c.from.ensures, c.from-2.ensures) (simp append_assoc refl)
