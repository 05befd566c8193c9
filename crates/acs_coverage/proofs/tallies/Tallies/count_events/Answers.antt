use Rattle.acs_coverage.proofs.CountLemmas.{next_counted}
use Rattle.acs_coverage.proofs.tallies.Tallies.count_events.Goals as goal

pub loop-event-preserved : goal.loop-event-preserved
loop-event-preserved c = λ before counts.
    next_counted before c.args.events.now c.event-item.result c.loop-event.event-index c.loop-event.self c.count.new.self c.loop-event-test.true c.event-item.is c.in_ok-count.ensures (c.loop-event.invariant before counts)
