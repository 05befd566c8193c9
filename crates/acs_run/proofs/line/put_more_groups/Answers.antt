use Rattle.acs_run.proofs.LineLemmas.{names_end, names_turn}
use Rattle.acs_run.proofs.line.put_more_groups.Goals as goal

pub loop-group-preserved : goal.loop-group-preserved
loop-group-preserved c = names_turn c.args.groups.now c.loop-group.group-index c.group-item.result c.loop-group.draft c.put_comma.new.draft c.put_group.new.draft _ c.loop-group-test.true c.group-item.is c.put_comma.ensures c.put_group.ensures c.loop-group.invariant.1

pub returns : goal.returns
returns c = names_end c.args.groups.now c.loop-group.group-index c.loop-group.draft _ c.loop-group-test.false c.loop-group.invariant.0 c.loop-group.invariant.1
