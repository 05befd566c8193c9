use Rattle.std.specs.Prelude.{◌≡◌, ◌≤◌, length, map, slice_index_or, take, vec_capacity, vec_len}
use Rattle.desk_plan.proofs.ranking.by_ranks.Given as goal

-- the items so far have their ranks, and there is room for all
abbrev pub invariant-loop-worker : goal.invariant-loop-worker
invariant-loop-worker l =
    (l.ranked.items ≡ map (λ worker. slice_index_or l.ranks worker 0) (take l.worker-index l.plan)) × ((vec_len l.ranked ≡ l.worker-index) × (length l.plan ≤ vec_capacity l.ranked))
