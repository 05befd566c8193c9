use Rattle.std.proofs.Common.{◌≤◌, ◌-◌, length}
use Rattle.acs_code.specs.Inner.Steps.{rest_of}
use Rattle.acs_run.specs.Inner.Memos.{Knows}
use Rattle.acs_run.specs.Inner.Steps.{Same}
use Rattle.acs_run.proofs.machine.run.Given as goal

abbrev pub invariant-loop-place : goal.invariant-loop-place
invariant-loop-place l = (l.place ≤ length l.code.instrs) × Knows l.code.filters l.input.dsn l.memo × Same l.code.kind (rest_of l.code l.input 0 l.initial.values) (rest_of l.code l.input l.place l.values) l.initial.slate l.slate

abbrev pub decreases-loop-place : goal.decreases-loop-place
decreases-loop-place l = l.end - l.place
