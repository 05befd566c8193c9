use Rattle.acs_code.proofs.StatementLemmas.{parts_turn}
use Rattle.acs_code.proofs.writes.parts.Goals as goal

pub loop-operand-preserved : goal.loop-operand-preserved
loop-operand-preserved c = λ input values.
    parts_turn c.args.operands.now c.loop-operand.operand-index c.operand-item.result c.loop-operand.parts c.push.new.self c.part.result input values c.loop-operand-test.true c.operand-item.is c.in_ok-push.ensures.ok (c.part.ensures.text input values) (c.loop-operand.invariant input values)
