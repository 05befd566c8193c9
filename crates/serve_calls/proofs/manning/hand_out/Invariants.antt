use Rattle.std.specs.Prelude.{◌≡◌, ◌≤◌, ◌+◌, ◌++◌, Some, All, map, reverse, vec_capacity, vec_len}
use Rattle.serve_calls.specs.Inner.Workers.{HasMost, door_of, seat_of}
use Rattle.serve_calls.proofs.manning.hand_out.Given as goal

-- the seats and doors that are handed out, and those that are left
abbrev pub invariant-loop-door : goal.invariant-loop-door
invariant-loop-door g l =
    (vec_len l.seats ≡ vec_len l.doors)
    × (vec_len l.workers + vec_len l.doors ≤ vec_capacity l.workers)
    × (map seat_of l.workers.items ++ reverse (map (λ seat. Some seat) l.seats.items) ≡ reverse (map (λ seat. Some seat) l.fn.seats.items))
    × (map door_of l.workers.items ++ reverse l.doors.items ≡ reverse l.fn.doors.items)
    × All (HasMost l.most) l.workers.items
    × (vec_capacity l.seats ≡ vec_capacity l.fn.seats)
    × (vec_capacity l.doors ≡ vec_capacity l.fn.doors)

abbrev pub decreases-loop-door : goal.decreases-loop-door
decreases-loop-door g l = vec_len l.doors
