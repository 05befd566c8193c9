use Rattle.std.proofs.Common.{sym, ◌∙◌}
use Rattle.toml.specs.View.{table_view}
use Rattle.sms_deck.proofs.AssignedLemmas.{found_in_body, passed_in_body, found_in_whens, passed_in_whens}
use Rattle.deck_faults.proofs.assigned.+walk.Goals as goal

pub unknown_in_body-returns-then-is_some : goal.unknown_in_body-returns-then-is_some
unknown_in_body-returns-then-is_some t c =
    found_in_body (table_view c.args.constructs.now) c.unknown_in-found.result c.inner-item.result c.args.body.now c.statements.inner-index c.statements-test.true c.inner-item.is c.unknown_in-found.ensures (sym c.is_some.ensures ∙ c.if-is_some.true) c.statements.invariant

pub unknown_in_body-statements-preserved : goal.unknown_in_body-statements-preserved
unknown_in_body-statements-preserved t c =
    passed_in_body (table_view c.args.constructs.now) c.unknown_in-found.result c.inner-item.result c.args.body.now c.statements.inner-index c.statements-test.true c.inner-item.is c.unknown_in-found.ensures (sym c.is_some.ensures ∙ c.if-is_some.false) c.statements.invariant

pub unknown_in_whens-returns-then-is_some : goal.unknown_in_whens-returns-then-is_some
unknown_in_whens-returns-then-is_some t c =
    found_in_whens (table_view c.args.constructs.now) c.unknown_in-found.result c.get.result.now c.when-item.result c.args.whens.now c.clauses.when-index c.clauses-test.true c.when-item.is c.get.ensures c.unknown_in-found.ensures (sym c.is_some.ensures ∙ c.if-is_some.true) c.clauses.invariant

pub unknown_in_whens-clauses-preserved : goal.unknown_in_whens-clauses-preserved
unknown_in_whens-clauses-preserved t c =
    passed_in_whens (table_view c.args.constructs.now) c.unknown_in-found.result c.get.result.now c.when-item.result c.args.whens.now c.clauses.when-index c.clauses-test.true c.when-item.is c.get.ensures c.unknown_in-found.ensures (sym c.is_some.ensures ∙ c.if-is_some.false) c.clauses.invariant
