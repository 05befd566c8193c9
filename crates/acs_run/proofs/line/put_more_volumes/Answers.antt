use Rattle.acs_run.proofs.LineLemmas.{names_end, names_turn}
use Rattle.acs_run.proofs.line.put_more_volumes.Goals as goal

pub loop-volume-preserved : goal.loop-volume-preserved
loop-volume-preserved c = names_turn c.args.volumes.now c.loop-volume.volume-index c.volume-item.result c.loop-volume.draft c.put_comma.new.draft c.put_volume.new.draft _ c.loop-volume-test.true c.volume-item.is c.put_comma.ensures c.put_volume.ensures c.loop-volume.invariant.1

pub returns : goal.returns
returns c = names_end c.args.volumes.now c.loop-volume.volume-index c.loop-volume.draft _ c.loop-volume-test.false c.loop-volume.invariant.0 c.loop-volume.invariant.1
