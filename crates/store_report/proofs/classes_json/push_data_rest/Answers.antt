-- The parts stand one behind the other.
use Rattle.std.proofs.Common.{append_assoc, refl}
use Rattle.store_report.proofs.classes_json.push_data_rest.Goals as goal

pub returns : goal.returns
returns c = rw (c.in_ok-push.ensures.items, c.in_ok-push_text.ensures, c.in_ok-push_count_if.ensures, c.eattr_bytes.ensures, c.count_of.ensures) (simp append_assoc refl)
