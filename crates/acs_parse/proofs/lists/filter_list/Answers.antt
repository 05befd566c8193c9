use Rattle.std.proofs.lemmas.Result.{err_from_is_err_and}
use Rattle.acs_parse.proofs.OperandLemmas.{filter_at, filter_lists_fails}
use Rattle.acs_parse.proofs.lists.filter_list.Goals as goal

pub returns-in_err-include : goal.returns-in_err-include
returns-in_err-include c =
    let p = err_from_is_err_and c.from_residual-in_err-include.result c.from_residual-in_err-include.ensures.1 in
    rw (p.1, p.2) (filter_lists_fails c.in_err-include.field-0.0 c.in_ok-expect.ensures c.in_ok-name.ensures c.in_err-include.ensures)

pub returns : goal.returns
returns c = filter_at c.in_ok-expect.ensures c.in_ok-name.ensures c.place-name_at.ensures c.place-at.ensures c.in_ok-include.ensures
