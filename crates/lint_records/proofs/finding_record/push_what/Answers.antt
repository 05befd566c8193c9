-- The parts stand one behind the other.
use Rattle.std.proofs.Common.{append_assoc, refl}
use Rattle.lint_records.proofs.finding_record.push_what.Goals as goal

pub returns : goal.returns
returns c =
    rw (c.in_ok-push.ensures.items, c.in_ok-push_since.ensures, c.in_ok-extend_from_slice.ensures.items, c.in_ok-push_text.ensures) (simp append_assoc refl)
