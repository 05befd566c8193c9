use Rattle.std.specs.Prelude.{◌≡◌, ◌≤◌, take}
use Rattle.desk_plan.specs.Sharing.{times}
use Rattle.desk_workers.proofs.rooms.count_of.Given as goal

-- the places so far are counted
abbrev pub invariant-loop-worker : goal.invariant-loop-worker
invariant-loop-worker l = (l.count ≡ times l.me (take l.worker-index l.plan)) × (l.count ≤ l.worker-index)
