use Rattle.std.specs.Prelude.{◌≡◌, ◌+◌, ◌++◌, drop}
use Rattle.serve_calls.specs.ServedText.{worker_lines}
use Rattle.serve_calls.proofs.connections.push_workers.Given as goal

-- the lines so far, and those of the workers that are left
abbrev pub invariant-loop-at : goal.invariant-loop-at
invariant-loop-at l = l.text.items ++ worker_lines (l.at + 1) (drop l.at l.workers) ≡ l.initial.text.items ++ worker_lines 1 l.workers
