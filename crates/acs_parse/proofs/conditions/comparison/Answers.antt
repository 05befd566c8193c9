use Rattle.std.proofs.lemmas.Result.{err_from_is_err_and}
use Rattle.acs_parse.proofs.CondLemmas.{test_ref_fails, test_operator_fails, test_operand_fails}
use Rattle.acs_parse.proofs.conditions.comparison.Goals as goal

pub returns-in_err-left : goal.returns-in_err-left
returns-in_err-left c =
    let p = err_from_is_err_and c.from_residual.result c.from_residual.ensures.1 in
    rw (p.1, p.2) (test_ref_fails c.in_err-left.field-0.0 c.args.rest.now c.requires c.in_err-left.ensures)

pub returns-in_err-op : goal.returns-in_err-op
returns-in_err-op c =
    let p = err_from_is_err_and c.from_residual-in_err-op.result c.from_residual-in_err-op.ensures.1 in
    rw (p.1, p.2) (test_operator_fails c.in_err-op.field-0.0 c.requires c.in_ok-left.ensures c.in_err-op.ensures)

pub returns-in_err-right : goal.returns-in_err-right
returns-in_err-right c =
    let p = err_from_is_err_and c.from_residual-in_err-right.result c.from_residual-in_err-right.ensures.1 in
    rw (p.1, p.2) (test_operand_fails c.in_err-right.field-0.0 c.requires c.in_ok-left.ensures c.in_ok-op.ensures c.in_err-right.ensures)
