use Rattle.std.proofs.Common.{sym}
use Rattle.std.proofs.lemmas.Result.{err_from_is_err_and}
use Rattle.acs_parse.proofs.CondLemmas.{and_turn, and_word_fails, or_turn, or_word_fails}
use Rattle.acs_parse.proofs.conditions.+cond.Goals as goal

pub cond-returns-in_err-expect : goal.cond-returns-in_err-expect
cond-returns-in_err-expect t c =
    let p = err_from_is_err_and c.from_residual-in_err-expect.result c.from_residual-in_err-expect.ensures.1 in
    rw (p.1, p.2) (or_word_fails c.in_err-expect.field-0.0 c.ors.invariant (sym c.ors-test.ensures) c.in_ok-inner.ensures c.in_err-expect.ensures)

pub cond-ors-preserved : goal.cond-ors-preserved
cond-ors-preserved t c = or_turn c.ors.invariant c.in_ok-inner.ensures c.in_ok-expect.ensures c.in_ok-right.ensures c.in_ok-found-2.ensures

pub conj-returns-in_err-expect : goal.conj-returns-in_err-expect
conj-returns-in_err-expect t c =
    let p = err_from_is_err_and c.from_residual-in_err-expect.result c.from_residual-in_err-expect.ensures.1 in
    rw (p.1, p.2) (and_word_fails c.in_err-expect.field-0.0 c.ands.invariant (sym c.ands-test.ensures) c.in_ok-inner.ensures c.in_err-expect.ensures)

pub conj-ands-preserved : goal.conj-ands-preserved
conj-ands-preserved t c = and_turn c.ands.invariant c.in_ok-inner.ensures c.in_ok-expect.ensures c.in_ok-right.ensures c.in_ok-found-2.ensures
