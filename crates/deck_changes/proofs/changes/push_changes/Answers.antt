-- The parts stand one behind the other.
use Rattle.std.proofs.Common.{append_assoc, refl}
use Rattle.deck_changes.proofs.changes.push_changes.Goals as goal

pub returns : goal.returns
returns c = rw (c.in_ok-push_routines.ensures, c.in_ok-push_places.ensures, c.in_ok-push_classes.ensures, c.in_ok-push_names.ensures) (simp append_assoc refl)
