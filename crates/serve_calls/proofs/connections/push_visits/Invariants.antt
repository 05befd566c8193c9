use Rattle.std.specs.Prelude.{◌≡◌, ◌+◌, ◌++◌, drop}
use Rattle.serve_calls.specs.ServedText.{visit_lines}
use Rattle.serve_calls.proofs.connections.push_visits.Given as goal

-- the lines so far, and those of the visits that are left
abbrev pub invariant-loop-at : goal.invariant-loop-at
invariant-loop-at l = l.text.items ++ visit_lines l.worker (l.at + 1) (drop l.at l.visits) ≡ l.initial.text.items ++ visit_lines l.worker 1 l.visits
