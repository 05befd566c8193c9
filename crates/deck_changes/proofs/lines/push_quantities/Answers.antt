-- The parts stand one behind the other.
use Rattle.std.proofs.Common.{append_assoc, refl}
use Rattle.deck_changes.proofs.lines.push_quantities.Goals as goal

pub returns : goal.returns
returns c = rw (c.in_ok-extend_from_slice.ensures.items, c.in_ok-push_numbered-2.ensures, c.in_ok-push_numbered.ensures, c.in_ok-push_worded.ensures, c.unit_bytes.ensures, c.unit.ensures, c.from.ensures, c.from-2.ensures, c.primary.ensures.value, c.secondary.ensures.value) (simp append_assoc refl)
