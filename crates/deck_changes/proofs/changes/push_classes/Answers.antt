-- The parts stand one behind the other.
use Rattle.std.proofs.Common.{append_assoc, refl}
use Rattle.deck_changes.proofs.changes.push_classes.Goals as goal

pub returns : goal.returns
returns c = rw (c.in_ok-push_difference-3.ensures, c.in_ok-push_difference-2.ensures, c.in_ok-push_difference.ensures, c.data_classes.ensures, c.data_classes-2.ensures, c.storage_classes.ensures, c.storage_classes-2.ensures, c.management_classes.ensures, c.management_classes-2.ensures) (simp append_assoc refl)
