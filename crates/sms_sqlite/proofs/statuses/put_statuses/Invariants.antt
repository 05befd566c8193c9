use Rattle.std.proofs.Common.{◌≡◌, take, Ok, Result}
use Rattle.sqlite.specs.State.{Survives}
use Rattle.sqlite.specs.Held.{state}
use Rattle.sqlite.specs.declared.error.Error.{Error}
use Rattle.keeper_statements.specs.Steps.{MayMake, MayStay}
use Rattle.sms_sqlite.specs.Inner.Columns.{with_statuses, AreReadable}
use Rattle.sms_sqlite.proofs.statuses.put_statuses.Given as goal

abbrev ended : Result (Unit {0}) Error
ended = Ok tt

-- the statuses so far are added
abbrev pub invariant-loop-row : goal.invariant-loop-row
invariant-loop-row g l =
    (l.tx.conn.ghost_name ≡ l.fn.tx.conn.ghost_name)
    × Survives (state g.S.Store l.fn.tx.conn.now) (state g.S.Store l.tx.conn.now) (λ _. ⊥)
    × MayStay (state g.S.Store l.fn.tx.conn.now) (state g.S.Store l.tx.conn.now) ended
    × MayMake (with_statuses (take l.row-index l.statuses)) (state g.S.Store l.fn.tx.conn.now) (state g.S.Store l.tx.conn.now) ended
    × AreReadable (take l.row-index l.statuses)
