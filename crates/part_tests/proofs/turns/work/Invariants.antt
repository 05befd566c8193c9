use Rattle.turn_lock.specs.Contract.{IsOf}
use Rattle.part_tests.proofs.turns.work.Given as goal

-- the seat stays one of the lock
abbrev pub invariant-loop-entry : goal.invariant-loop-entry
invariant-loop-entry g l = IsOf l.fn.lock.table.shared.table_id l.seat
