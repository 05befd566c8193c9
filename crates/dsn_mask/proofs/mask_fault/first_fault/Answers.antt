use Rattle.std.proofs.Common.{arith}
use Rattle.dsn_mask.proofs.MaskFaults.{first_is}
use Rattle.dsn_mask.proofs.mask_fault.first_fault.Goals as goal

pub returns-in-Some : goal.returns-in-Some
returns-in-Some c = first_is _ _ _ _ (omega arith) (omega arith) (omega arith) c.loop-at.invariant c.in-Some.ensures
