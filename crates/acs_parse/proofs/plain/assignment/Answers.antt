use Rattle.std.proofs.lemmas.Result.{err_from_is_err_and}
use Rattle.acs_parse.proofs.StatementLemmas.{set_at, set_values_fail}
use Rattle.acs_parse.proofs.plain.assignment.Goals as goal

pub returns-in_err-values : goal.returns-in_err-values
returns-in_err-values c =
    let p = err_from_is_err_and c.from_residual-in_err-values.result c.from_residual-in_err-values.ensures.1 in
    rw (p.1, p.2) (set_values_fail c.in_err-values.field-0.0 c.in_ok-target.ensures c.in_ok-expect.ensures c.in_err-values.ensures)

pub returns : goal.returns
returns c = set_at c.args.at c.in_ok-target.ensures c.in_ok-expect.ensures c.in_ok-values.ensures
