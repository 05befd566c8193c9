use Rattle.std.proofs.Common.{arith}
use Rattle.dsn_mask.proofs.Faults.{bad_byte_is}
use Rattle.dsn_mask.proofs.name_fault.qualifier_fault.Goals as goal

pub returns-else-good-eq-MAX_NAME : goal.returns-else-good-eq-MAX_NAME
returns-else-good-eq-MAX_NAME c =
    let said = c.good_front-good.ensures in
    bad_byte_is _ _ _ _ (omega arith) (omega arith) (cc) said.before (said.bad (omega arith) (omega arith))
