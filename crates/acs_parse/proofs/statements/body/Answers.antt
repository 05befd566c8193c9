use Rattle.std.proofs.Common.{arith, ap, length}
use Rattle.std.proofs.lemmas.Result.{err_from_is_err_and}
use Rattle.acs_parse.proofs.ShorterLemmas.{item_shorter}
use Rattle.acs_parse.proofs.StatementLemmas.{block_turn, block_fails}
use Rattle.acs_parse.proofs.statements.body.Goals as goal

pub returns-in_err-found : goal.returns-in_err-found
returns-in_err-found c =
    let p = err_from_is_err_and c.from_residual.result c.from_residual.ensures.1 in
    rw (p.1, p.2) (block_fails c.in_err-found.field-0.0 c.items.invariant c.items-test.ensures c.in_err-found.ensures)

pub items-smaller : goal.items-smaller
items-smaller c = omega (arith, item_shorter c.in_ok-found.ensures.1, ap length c.items-test.ensures.1)

pub items-preserved : goal.items-preserved
items-preserved c = block_turn c.items.invariant c.items-test.ensures c.in_ok-found.ensures.1 c.in_ok-found.ensures.2
