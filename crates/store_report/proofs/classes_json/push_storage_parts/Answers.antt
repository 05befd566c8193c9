-- The parts stand one behind the other.
use Rattle.std.proofs.Common.{append_assoc, refl}
use Rattle.store_report.proofs.classes_json.push_storage_parts.Goals as goal

pub returns : goal.returns
returns c = rw (c.in_ok-push.ensures.items, c.in_ok-push_flag.ensures, c.in_ok-push_text.ensures, c.bytes.ensures.bytes) (simp append_assoc refl)
