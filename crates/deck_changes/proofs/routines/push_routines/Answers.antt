-- The parts stand one behind the other.
use Rattle.std.proofs.Common.{append_assoc, refl}
use Rattle.deck_changes.proofs.routines.push_routines.Goals as goal

pub returns : goal.returns
returns c = rw (c.in_ok-push_routine-4.ensures, c.in_ok-push_routine-3.ensures, c.in_ok-push_routine-2.ensures, c.in_ok-push_routine.ensures) (simp append_assoc refl)
