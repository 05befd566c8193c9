-- The parts stand one behind the other.
use Rattle.std.proofs.Common.{append_assoc, refl}
use Rattle.store_report.proofs.classes_json.push_space.Goals as goal

pub returns : goal.returns
returns c = rw (c.in_ok-push_count_if-2.ensures, c.in_ok-push_count_if.ensures, c.secondary_of.ensures, c.primary_of.ensures, c.in_ok-push_unit_if.ensures, c.in_ok-extend_from_slice.ensures.items) (simp append_assoc refl)
