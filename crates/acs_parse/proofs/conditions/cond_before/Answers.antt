use Rattle.std.proofs.lemmas.Result.{err_from_is_err_and}
use Rattle.acs_parse.proofs.CondLemmas.{before_word_fails}
use Rattle.acs_parse.proofs.conditions.cond_before.Goals as goal

pub returns-in_err-expect : goal.returns-in_err-expect
returns-in_err-expect c =
    let p = err_from_is_err_and c.from_residual-in_err-expect.result c.from_residual-in_err-expect.ensures.1 in
    rw (p.1, p.2) (before_word_fails c.in_err-expect.field-0.0 c.args.want c.in_ok-found.ensures c.in_err-expect.ensures)
