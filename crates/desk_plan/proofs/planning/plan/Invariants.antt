use Rattle.std.specs.Prelude.{◌≡◌, ◌≤◌, length, take, vec_capacity, vec_len}
use Rattle.desk_plan.specs.Plan.{plan_of}
use Rattle.desk_plan.proofs.planning.plan.Given as goal

-- the items so far have their workers, and there is room for all
abbrev pub invariant-loop-item : goal.invariant-loop-item
invariant-loop-item l = (l.plan.items ≡ plan_of l.numbers l.workers (take l.item-index l.items)) × ((vec_len l.plan ≡ l.item-index) × (length l.items ≤ vec_capacity l.plan))
