use Rattle.std.proofs.Common.{arith}
use Rattle.desk_restoring.proofs.LogLemmas.{places-next}
use Rattle.desk_restoring.proofs.opened.greatest_place.Goals as goal

pub loop-row-preserved : goal.loop-row-preserved
loop-row-preserved c = omega (arith, c.loop-row.invariant, c.later-greatest.ensures, places-next c.args.replies.now c.loop-row.row-index c.row-item.result c.loop-row-test.true c.row-item.is)
