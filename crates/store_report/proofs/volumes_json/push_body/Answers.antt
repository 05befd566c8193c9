-- The parts stand one behind the other.
use Rattle.std.proofs.Common.{append_assoc, refl}
use Rattle.store_report.proofs.volumes_json.push_body.Goals as goal

pub returns : goal.returns
returns c = rw (c.in_ok-push.ensures.items, c.in_ok-push_volumes.ensures, c.in_ok-extend_from_slice.ensures.items) (simp append_assoc refl)
