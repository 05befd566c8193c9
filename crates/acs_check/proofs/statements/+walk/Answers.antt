use Rattle.std.proofs.Common.{◌∙◌, ◌+◌, ap, drop}
use Rattle.acs_tree.specs.Nodes.{nodes_of_cond}
use Rattle.acs_check.specs.Inner.Parts.{nodes_of_block}
use Rattle.acs_check.specs.Inner.Walk.{walked}
use Rattle.acs_check.proofs.WalkLemmas.{block_turn, if_at, pick_given, when_at}
use Rattle.acs_check.proofs.statements.+walk.Goals as goal

pub block-statements-preserved : goal.block-statements-preserved
block-statements-preserved t c =
    ap (λ z. walked c.args.kind c.args.before.now z (nodes_of_block (drop (c.statements.inner-index + 1) c.args.body.now))) c.statement-best.ensures
    ∙ block_turn c.args.kind c.args.before.now c.statements.best c.inner-item.result c.args.body.now c.statements.inner-index c.statements-test.true c.inner-item.is
    ∙ c.statements.invariant

pub when_clauses-clauses-preserved : goal.when_clauses-clauses-preserved
when_clauses-clauses-preserved t c =
    when_at c.args.kind c.args.before.now c.clauses.best c.args.compared.now c.when-item.result c.args.whens.now c.clauses.when-index c.clauses-test.true c.when-item.is c.get.ensures c.when_test-best.ensures c.statement-best.ensures
    ∙ c.clauses.invariant

pub statement-returns-in-If : goal.statement-returns-in-If
statement-returns-in-If t c =
    if_at c.args.kind c.args.before.now c.args.best c.args.current.now c.in-If.cond c.in-If.yes c.in-If.otherwise c.in-If.is c.get.ensures (c.condition-best.ensures ∙ ap (λ z. walked c.args.kind c.args.before.now c.args.best (nodes_of_cond z)) c.get-cond.ensures) c.statement-best.ensures c.alternative.ensures

pub statement-returns-in-Pick : goal.statement-returns-in-Pick
statement-returns-in-Pick t c =
    pick_given c.args.kind c.args.before.now c.args.best c.args.current.now c.in-Pick.reference c.in-Pick.whens c.in-Pick.otherwise c.in-Pick.is c.subject_of-compared.ensures c.as_slice-in-Pick.ensures c.subject-best.ensures c.when_clauses-best.ensures c.alternative-in-Pick.ensures
