use Rattle.std.specs.Prelude.{◌≡◌, ◌+◌, length, flat_map, drop}
use Rattle.serve_calls.proofs.connections.count_visits.Given as goal

-- the visits so far, and those that are left
abbrev pub invariant-loop-visits : goal.invariant-loop-visits
invariant-loop-visits l = l.count + length (flat_map (λ visits. visits) (drop l.visits-index l.workers)) ≡ length (flat_map (λ visits. visits) l.workers)
