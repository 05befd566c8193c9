-- The parts stand one behind the other.
use Rattle.std.proofs.Common.{append_assoc, refl}
use Rattle.store_report.proofs.extents_json.push_front.Goals as goal

pub returns : goal.returns
returns c = rw (c.in_ok-push_text-2.ensures, c.in_ok-push_text.ensures, c.bytes-2.ensures.bytes, c.bytes.ensures.bytes) (simp append_assoc refl)
