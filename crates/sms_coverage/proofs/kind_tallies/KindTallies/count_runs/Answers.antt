use Rattle.sms_coverage.proofs.CoverageLemmas.{next_run}
use Rattle.sms_coverage.proofs.kind_tallies.KindTallies.count_runs.Goals as goal

pub loop-run-preserved : goal.loop-run-preserved
loop-run-preserved c = λ before counts.
    next_run before c.args.runs.now c.run-item.result c.loop-run.run-index c.loop-run.self c.count_run.new.self c.loop-run-test.true c.run-item.is c.in_ok-count_run.ensures (c.loop-run.invariant before counts)
