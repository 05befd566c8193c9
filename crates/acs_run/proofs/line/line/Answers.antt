use Rattle.std.proofs.Common.{◌∙◌}
use Rattle.acs_run.proofs.LineLemmas.{parts_end, parts_turn}
use Rattle.acs_run.proofs.line.line.Goals as goal

pub loop-part-preserved : goal.loop-part-preserved
loop-part-preserved c = parts_turn c.args.parts.now c.loop-part.part-index c.part-item.result c.args.input.now c.args.values.now c.loop-part.draft c.put_part.new.draft _ c.loop-part-test.true c.part-item.is c.put_part.ensures c.loop-part.invariant.1

pub returns : goal.returns
returns c = c.text.ensures.text ∙ parts_end c.args.parts.now c.loop-part.part-index c.args.input.now c.args.values.now c.loop-part.draft _ c.loop-part-test.false c.loop-part.invariant.0 c.loop-part.invariant.1
