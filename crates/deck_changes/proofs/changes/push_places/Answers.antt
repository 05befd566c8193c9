-- The parts stand one behind the other.
use Rattle.std.proofs.Common.{append_assoc, refl}
use Rattle.deck_changes.proofs.changes.push_places.Goals as goal

pub returns : goal.returns
returns c = rw (c.in_ok-push_difference-2.ensures, c.in_ok-push_difference.ensures, c.groups.ensures, c.groups-2.ensures, c.volumes.ensures, c.volumes-2.ensures) (simp append_assoc refl)
