-- The parts stand one behind the other.
use Rattle.std.proofs.Common.{append_assoc, refl}
use Rattle.deck_changes.proofs.construct.push_volume.Goals as goal

pub returns : goal.returns
returns c = rw (c.in_ok-push_numbered.ensures, c.in_ok-push_worded-3.ensures, c.in_ok-push_worded-2.ensures, c.in_ok-push_worded.ensures, c.status_bytes.ensures, c.from.ensures, c.bytes.ensures.bytes, c.bytes-2.ensures.bytes) (simp append_assoc refl)
