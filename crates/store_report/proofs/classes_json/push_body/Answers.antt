-- The parts stand one behind the other.
use Rattle.std.proofs.Common.{append_assoc, refl}
use Rattle.store_report.proofs.classes_json.push_body.Goals as goal

pub returns : goal.returns
returns c = rw (c.in_ok-push.ensures.items, c.in_ok-push_management_classes.ensures, c.in_ok-extend_from_slice-3.ensures.items, c.in_ok-push_storage_classes.ensures, c.in_ok-extend_from_slice-2.ensures.items, c.in_ok-push_data_classes.ensures, c.in_ok-extend_from_slice.ensures.items) (simp append_assoc refl)
