use Rattle.std.specs.Prelude.{take}
use Rattle.serve_calls.specs.ServeEnds.{AllowsStatus}
use Rattle.serve_calls.proofs.serve.status_of.Given as goal

-- the status of the doors so far
abbrev pub invariant-loop-end : goal.invariant-loop-end
invariant-loop-end l = AllowsStatus (take l.end-index l.ends) l.done
