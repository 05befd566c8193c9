use Rattle.dsn_mask.proofs.Filled.{filled_front}
use Rattle.dsn_mask.proofs.text.Text.new.Goals as goal

pub invariant_of-result : goal.invariant_of-result
invariant_of-result g c = filled_front g.row.N _ _ c.copy_from_slice.ensures.after
