-- The parts stand one behind the other.
use Rattle.std.proofs.Common.{append_assoc, refl}
use Rattle.deck_changes.proofs.changes.push_names.Goals as goal

pub returns : goal.returns
returns c = rw (c.in_ok-push_name-2.ensures, c.in_ok-push_name.ensures, c.system.ensures, c.system-2.ensures, c.sysplex.ensures, c.sysplex-2.ensures) (simp append_assoc refl)
