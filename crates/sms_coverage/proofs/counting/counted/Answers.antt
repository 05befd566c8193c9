use Rattle.sms_coverage.proofs.CoverageLemmas.{next_item}
use Rattle.sms_coverage.proofs.counting.counted.Goals as goal

pub loop-item-preserved : goal.loop-item-preserved
loop-item-preserved c =
    next_item c.args.config.now (λ item. item.now) c.args.items.now c.item-item.result c.loop-item.item-index c.loop-item.tallies c.count_item.new.tallies c.loop-item-test.true c.item-item.is c.in_ok-count_item.ensures c.loop-item.invariant
