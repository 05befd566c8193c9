-- The parts stand one behind the other.
use Rattle.std.proofs.Common.{append_assoc, refl}
use Rattle.store_report.proofs.volumes_json.push_figures.Goals as goal

pub returns : goal.returns
returns c = rw (c.in_ok-push_count-3.ensures, c.in_ok-push_count-2.ensures, c.in_ok-push_count.ensures) (simp append_assoc refl)
