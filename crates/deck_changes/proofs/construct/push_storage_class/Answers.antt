-- The parts stand one behind the other.
use Rattle.std.proofs.Common.{append_assoc, refl}
use Rattle.deck_changes.proofs.construct.push_storage_class.Goals as goal

pub returns : goal.returns
returns c = rw (c.in_ok-push_worded-2.ensures, c.in_ok-push_worded.ensures, c.switch_bytes.ensures, c.bytes.ensures.bytes) (simp append_assoc refl)
