use Rattle.std.proofs.Common.{◌≡◌, ◌++◌, take, drop, map}
use Rattle.sms_keeper.specs.Tables.{row_with}
use Rattle.sms_keeper.proofs.replaying.set_status.Given as goal

-- the rows so far have the status, those behind are as they were
abbrev pub invariant-loop-row : goal.invariant-loop-row
invariant-loop-row l = l.rows ≡ map (row_with l.target l.status) (take l.row-index l.initial.rows) ++ drop l.row-index l.initial.rows
