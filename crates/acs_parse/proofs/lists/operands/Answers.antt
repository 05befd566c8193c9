use Rattle.std.proofs.Common.{arith}
use Rattle.std.proofs.lemmas.Result.{err_from_is_err_and}
use Rattle.acs_parse.proofs.OperandLemmas.{list_fails, further_within}
use Rattle.acs_parse.proofs.ShorterLemmas.{operand_shorter}
use Rattle.acs_parse.proofs.lists.operands.Goals as goal

pub returns-in_err-next : goal.returns-in_err-next
returns-in_err-next c =
    let p = err_from_is_err_and c.from_residual-in_err-next.result c.from_residual-in_err-next.ensures.1 in
    rw (p.1, p.2) (list_fails c.in_err-next.field-0.0 c.more.invariant c.in-Some.ensures c.in_err-next.ensures)

pub more-smaller : goal.more-smaller
more-smaller c = omega (arith, further_within c.args.kind c.in-Some.ensures, operand_shorter c.in_ok-next.ensures)
