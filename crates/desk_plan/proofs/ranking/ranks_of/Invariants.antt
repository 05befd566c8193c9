use Rattle.std.specs.Prelude.{◌≡◌, ◌≤◌, vec_capacity, vec_len}
use Rattle.desk_plan.specs.Plan.{at_work}
use Rattle.desk_plan.specs.Inner.Ranks.{first_ranks}
use Rattle.desk_plan.proofs.ranking.ranks_of.Given as goal

-- the workers so far have their ranks, and there is room for all
abbrev pub invariant-loop-worker : goal.invariant-loop-worker
invariant-loop-worker l =
    (l.ranks.items ≡ first_ranks l.plan l.worker) × ((l.count ≡ at_work l.plan l.worker) × ((vec_len l.ranks ≡ l.worker) × (l.workers ≤ vec_capacity l.ranks)))
