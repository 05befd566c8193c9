use Rattle.std.specs.Prelude.{take}
use Rattle.desk_workers.specs.Inner.Worked.{HasWorked}
use Rattle.desk_workers.proofs.working.work.Given as goal

-- the worker's items up to here are answered
abbrev pub invariant-loop-at : goal.invariant-loop-at
invariant-loop-at g l = HasWorked l.desk.lock.table.shared.table_id l.me (take l.at l.plan) (take l.at l.items) l.initial.seat l.seat
