use Rattle.std.proofs.Common.{◌≤◌, arith}
use Rattle.desk_plan.proofs.RankLemmas.{one-at-most, work-few}
use Rattle.desk_plan.proofs.ranking.ranks_of.Goals as goal

-- no more are at work than were looked at
pub overflow_add-count : goal.overflow_add-count
overflow_add-count c =
    let small : c.number_if-count.result ≤ 1 = rw c.number_if-count.ensures (one-at-most c.has_item-is_at_work.result) in
    omega (arith, small, work-few c.args.plan.now c.loop-worker.worker, c.loop-worker.invariant.1.0, c.loop-worker-test.true, c.ranges.workers.fits)
