use Rattle.std.proofs.Common.{◌≡◌, ◌-◌, ◌∙◌, ap, arith, subst, sym, map, drop}
use Rattle.std.proofs.lemmas.Result.{on_ok_weaker}
use Rattle.acs_tree.specs.declared.routine.Form.TheVariants.{If}
use Rattle.acs_tree.specs.Meaning.{first_of}
use Rattle.acs_code.specs.Inner.Arms.{arm_of}
use Rattle.acs_code.specs.Compiled.{filters_of}
use Rattle.acs_code.specs.Inner.Upward.{Does}
use Rattle.acs_code.proofs.StatementLemmas.{block_turn, when_clause_turn, when_clauses_turn, conditional_turn}
use Rattle.acs_code.proofs.StatementLemmas.{exit_turn, if_turn, pick_turn, put_turn, written_turn}
use Rattle.acs_code.proofs.blocks.+statements.Goals as goal

pub block-loop-left-preserved : goal.block-loop-left-preserved
block-loop-left-preserved t c = (
  omega (arith, c.loop-left.invariant.0),
  block_turn c.args.kind c.args.lists.now c.args.body.now c.loop-left.left (c.loop-left.left - 1) c.index-body-left.result (omega (arith, c.loop-left-test.true)) (omega (arith, c.loop-left.invariant.0, c.loop-left-test.true)) c.index-body-left.is c.loop-left.invariant.1 c.in_ok-statement.ensures,
)

pub when_clauses-loop-left-preserved : goal.when_clauses-loop-left-preserved
when_clauses-loop-left-preserved t c = (
  omega (arith, c.loop-left.invariant.0),
  λ other rest h d. when_clauses_turn c.args.kind c.args.lists.now c.args.subject.now c.args.arms.now c.loop-left.left (c.loop-left.left - 1) c.index-arms-left.result other rest _ (omega (arith, c.loop-left-test.true)) (omega (arith, c.loop-left.invariant.0, c.loop-left-test.true)) c.index-arms-left.is (c.in_ok-when_clause.ensures _ rest h (c.loop-left.invariant.1 other rest h d)),
)

pub when_clauses-returns : goal.when_clauses-returns
when_clauses-returns t c =
    let none : c.loop-left.left ≡ 0 = omega (arith, c.loop-left-test.false) in
    λ other rest h d. subst (λ n. Does c.args.kind (filters_of c.args.lists.now) (first_of c.args.subject.now (map (arm_of c.args.kind c.args.lists.now) (drop n c.args.arms.now)) other) rest c.loop-left.code) none (c.loop-left.invariant.1 other rest h d)

pub when_clause-returns : goal.when_clause-returns
when_clause-returns t c =
    on_ok_weaker _ (when_clause_turn c.args.kind c.args.lists.now c.args.subject.now c.args.arm.now c.get.result.now c.get.ensures c.place-fails.ensures c.place.ensures c.in_ok-jump.ensures.over c.in_ok-jump.ensures.there c.in_ok-statement.ensures) c.when.ensures

pub conditional-returns : goal.conditional-returns
conditional-returns t c =
    on_ok_weaker _ (conditional_turn c.args.kind c.args.lists.now c.args.cond.now c.args.body.now c.place-fails.ensures c.place.ensures c.in_ok-jump.ensures.over c.in_ok-jump.ensures.there c.in_ok-statement.ensures) c.condition.ensures

pub statement-returns-in-Put : goal.statement-returns-in-Put
statement-returns-in-Put t c =
    on_ok_weaker _ (λ made. put_turn c.args.kind c.args.lists.now c.args.stmt.now c.in-Put.target c.in-Put.values c.as_slice.result.now c.in-Put.is c.as_slice.ensures (made (filters_of c.args.lists.now))) c.set.ensures

pub statement-returns-in-Write : goal.statement-returns-in-Write
statement-returns-in-Write t c =
    on_ok_weaker _ (λ made. written_turn c.args.kind c.args.lists.now c.args.stmt.now c.in-Write.parts c.as_slice-in-Write.result.now c.in-Write.is c.as_slice-in-Write.ensures (made c.args.kind (filters_of c.args.lists.now))) c.write.ensures

pub statement-returns-in-Exit : goal.statement-returns-in-Exit
statement-returns-in-Exit t c =
    on_ok_weaker _ (λ made. exit_turn c.args.kind c.args.lists.now c.args.stmt.now c.in-Exit.number c.in-Exit.is (made c.args.kind (filters_of c.args.lists.now))) c.exit.ensures

pub statement-returns-in_ok-alternative-in-If : goal.statement-returns-in_ok-alternative-in-If
statement-returns-in_ok-alternative-in-If t c =
    on_ok_weaker _ (if_turn c.args.kind c.args.lists.now c.args.stmt.now c.get-in-If.result.now c.in-If.yes c.get.result.now c.in-If.otherwise (c.in-If.is ∙ ap (λ z. If z c.in-If.yes c.in-If.otherwise) (sym c.get-in-If.ensures)) c.get.ensures c.place-end.ensures c.in_ok-alternative-in-If.ensures) c.conditional.ensures

pub statement-returns-in_ok-alternative-in-Pick : goal.statement-returns-in_ok-alternative-in-Pick
statement-returns-in_ok-alternative-in-Pick t c =
    on_ok_weaker _ (pick_turn c.args.kind c.args.lists.now c.args.stmt.now c.in-Pick.subject c.in-Pick.whens c.as_slice-in-Pick.result.now c.in-Pick.otherwise c.in-Pick.is c.as_slice-in-Pick.ensures c.place-end-in-Pick.ensures c.in_ok-alternative-in-Pick.ensures) c.when_clauses.ensures
