use Rattle.std.specs.Prelude.{◌≡◌, ◌≤◌, ◌+◌, ◌++◌, Some, All, map, reverse, vec_capacity, vec_len}
use Rattle.serve_calls.specs.Inner.Workers.{IsAtSeat, door_of, end_of, seat_of, visits_of}
use Rattle.serve_calls.proofs.manning.take_back.Given as goal

-- what is back, and what the workers still have
abbrev pub invariant-loop-worker : goal.invariant-loop-worker
invariant-loop-worker g l =
    All IsAtSeat l.workers.items
    × (vec_len l.seats + vec_len l.workers ≤ vec_capacity l.seats)
    × (vec_len l.doors + vec_len l.workers ≤ vec_capacity l.doors)
    × (vec_len l.visits + vec_len l.workers ≤ vec_capacity l.visits)
    × (vec_len l.ends + vec_len l.workers ≤ vec_capacity l.ends)
    × (map (λ seat. Some seat) l.seats.items ++ reverse (map seat_of l.workers.items) ≡ reverse (map seat_of l.fn.workers.items))
    × (l.doors.items ++ reverse (map door_of l.workers.items) ≡ reverse (map door_of l.fn.workers.items))
    × (l.visits.items ++ reverse (map visits_of l.workers.items) ≡ reverse (map visits_of l.fn.workers.items))
    × (l.ends.items ++ reverse (map end_of l.workers.items) ≡ reverse (map end_of l.fn.workers.items))

abbrev pub decreases-loop-worker : goal.decreases-loop-worker
decreases-loop-worker g l = goal.left-loop-worker g l
