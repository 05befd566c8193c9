use Rattle.std.proofs.Common.{false, ◌≡◌, ◌∷◌, arith, ap, length, sym}
use Rattle.std.proofs.lemmas.Grind.{common_steps}
use Rattle.std.proofs.lemmas.Result.{err_from_is_err_and}
use Rattle.acs_symbol.specs.declared.symbol.Symbol.TheVariants.{Open}
use Rattle.acs_parse.specs.declared.want.Want.TheVariants as want
use Rattle.acs_parse.proofs.ShorterLemmas.{takes_shorter, item_shorter, stmt_shorter, choice_shorter, when_shorter}
use Rattle.acs_parse.proofs.CondLemmas.{before_shorter}
use Rattle.acs_parse.proofs.StatementLemmas.{block_turn, block_fails, if_at}
use Rattle.acs_parse.proofs.StatementLemmas.{if_arms_fail, more_of_plain, more_of_statement}
use Rattle.acs_parse.proofs.SelectLemmas.{when_clauses_first, when_clauses_turn, when_clauses_fail, choice_by_value}
use Rattle.acs_parse.proofs.SelectLemmas.{choice_values_fail, when_of, when_test_fails, when_items_fail}
use Rattle.acs_parse.proofs.SelectLemmas.{when_body_fails, test_shorter}
use Rattle.acs_parse.proofs.statements.+statement.Goals as goal

pub block-returns-in_err-found : goal.block-returns-in_err-found
block-returns-in_err-found t c =
    let p = err_from_is_err_and c.from_residual.result c.from_residual.ensures.1 in
    rw (p.1, p.2) (block_fails c.in_err-found.field-0.0 c.items.invariant c.items-test.ensures c.in_err-found.ensures)

pub block-items-smaller : goal.block-items-smaller
block-items-smaller t c = omega (arith, item_shorter c.in_ok-found.ensures.1, ap length c.items-test.ensures.1)

pub block-items-preserved : goal.block-items-preserved
block-items-preserved t c = block_turn c.items.invariant c.items-test.ensures c.in_ok-found.ensures.1 c.in_ok-found.ensures.2

pub when_clauses-whens-init : goal.when_clauses-whens-init
when_clauses-whens-init t c = when_clauses_first c.in_ok-found.ensures c.new.ensures

pub when_clauses-returns-in_err-found-2 : goal.when_clauses-returns-in_err-found-2
when_clauses-returns-in_err-found-2 t c =
    let p = err_from_is_err_and c.from_residual-in_err-found-2.result c.from_residual-in_err-found-2.ensures.1 in
    rw (p.1, p.2) (when_clauses_fail c.in_err-found-2.field-0.0 c.whens.invariant (sym c.whens-test.ensures) c.in_err-found-2.ensures)

pub when_clauses-whens-preserved : goal.when_clauses-whens-preserved
when_clauses-whens-preserved t c = when_clauses_turn c.whens.invariant (sym c.whens-test.ensures) c.in_ok-found-2.ensures

pub choice-returns-in_err-whens-in-Some-Open-default : goal.choice-returns-in_err-whens-in-Some-Open-default
choice-returns-in_err-whens-in-Some-Open-default t c =
    let e : c.args.rest.now ≡ Open ∷ c.in-Some-Open-default.behind = grind (arith, common_steps) in
    let p = err_from_is_err_and c.from_residual-in_err-whens-in-Some-Open-default.result c.from_residual-in_err-whens-in-Some-Open-default.ensures.1 in
    rw (p.1, p.2) (choice_values_fail c.in_err-whens-in-Some-Open-default.field-0.0 c.args.depth e c.in_ok-subject-in-Some-Open-default.ensures c.in_ok-expect-in-Some-Open-default.ensures c.in_err-whens-in-Some-Open-default.ensures)

pub choice-returns-in_ok-whens-in-Some-Open-default : goal.choice-returns-in_ok-whens-in-Some-Open-default
choice-returns-in_ok-whens-in-Some-Open-default t c =
    let e : c.args.rest.now ≡ Open ∷ c.in-Some-Open-default.behind = grind (arith, common_steps) in
    choice_by_value e c.in_ok-subject-in-Some-Open-default.ensures c.in_ok-expect-in-Some-Open-default.ensures c.in_ok-whens-in-Some-Open-default.ensures

pub arms-alternative-requires : goal.arms-alternative-requires
arms-alternative-requires t c = (omega (arith, stmt_shorter c.in_ok-yes.ensures), tt)

pub when_clauses-whens-smaller : goal.when_clauses-whens-smaller
when_clauses-whens-smaller t c = omega (arith, when_shorter c.in_ok-found-2.ensures.1)

pub conditional-returns-in_err-yes : goal.conditional-returns-in_err-yes
conditional-returns-in_err-yes t c =
    let p = err_from_is_err_and c.from_residual-in_err-yes.result c.from_residual-in_err-yes.ensures.1 in
    rw (p.1, p.2) (if_arms_fail c.in_err-yes.field-0.0 c.in_ok-cond.ensures c.in_err-yes.ensures)

pub conditional-returns : goal.conditional-returns
conditional-returns t c = if_at c.in_ok-cond.ensures c.in_ok-yes.ensures

pub when_value-returns : goal.when_value-returns
when_value-returns t c = when_of c.args.found c.place-at.ensures c.in_ok-expect.ensures (c.in_ok-test.ensures c.args.depth) c.in_ok-body.ensures c.in_ok-with_when_parts.ensures

pub when_condition-returns : goal.when_condition-returns
when_condition-returns t c = when_of c.args.found c.place-at.ensures c.in_ok-expect.ensures c.in_ok-test.ensures c.in_ok-body.ensures c.in_ok-with_when_parts.ensures

pub conditional-arms-requires : goal.conditional-arms-requires
conditional-arms-requires t c = (omega (arith, before_shorter want.Then c.in_ok-cond.ensures), tt)

pub selection-alternative-requires : goal.selection-alternative-requires
selection-alternative-requires t c = (omega (arith, choice_shorter c.in_ok-subject.ensures), tt)

pub when_value-returns-in_err-test : goal.when_value-returns-in_err-test
when_value-returns-in_err-test t c =
    let p = err_from_is_err_and c.from_residual-in_err-test.result c.from_residual-in_err-test.ensures.1 in
    rw (p.1, p.2) (when_items_fail c.in_err-test.field-0.0 c.args.depth c.in_ok-expect.ensures c.in_err-test.ensures)

pub when_condition-returns-in_err-test : goal.when_condition-returns-in_err-test
when_condition-returns-in_err-test t c =
    let p = err_from_is_err_and c.from_residual-in_err-test.result c.from_residual-in_err-test.ensures.1 in
    rw (p.1, p.2) (when_test_fails c.in_err-test.field-0.0 c.args.depth false c.in_ok-expect.ensures c.in_err-test.ensures)

pub when_value-returns-in_err-body : goal.when_value-returns-in_err-body
when_value-returns-in_err-body t c =
    let p = err_from_is_err_and c.from_residual-in_err-body.result c.from_residual-in_err-body.ensures.1 in
    rw (p.1, p.2) (when_body_fails c.in_err-body.field-0.0 c.in_ok-expect.ensures (c.in_ok-test.ensures c.args.depth) c.in_err-body.ensures)

pub when_value-statement-requires : goal.when_value-statement-requires
when_value-statement-requires t c = (omega (arith, takes_shorter want.When c.in_ok-expect.ensures, test_shorter (c.in_ok-test.ensures c.args.depth)), tt)

pub when_condition-statement-requires : goal.when_condition-statement-requires
when_condition-statement-requires t c = (omega (arith, takes_shorter want.When c.in_ok-expect.ensures, test_shorter c.in_ok-test.ensures), tt)

pub inner_item-returns-in_ok-with_boxed : goal.inner_item-returns-in_ok-with_boxed
inner_item-returns-in_ok-with_boxed t c = more_of_statement false c.args.found c.in_ok-with_boxed.field-0 c.in_ok-next.ensures c.in_ok-with_boxed.ensures

pub inner_item-returns-in_ok-longer : goal.inner_item-returns-in_ok-longer
inner_item-returns-in_ok-longer t c = more_of_plain _ _ false _ _ c.args.found c.in_ok-longer.longer c.in_ok-longer.ensures
