-- The parts stand one behind the other.
use Rattle.std.proofs.Common.{append_assoc, refl}
use Rattle.deck_changes.proofs.construct.push_data_class.Goals as goal

pub returns : goal.returns
returns c = rw (c.in_ok-push_worded-2.ensures, c.in_ok-push_numbered_if.ensures, c.in_ok-push_space.ensures, c.in_ok-push_worded.ensures, c.eattr_bytes.ensures, c.count_of.ensures, c.bytes.ensures.bytes) (simp append_assoc refl)
