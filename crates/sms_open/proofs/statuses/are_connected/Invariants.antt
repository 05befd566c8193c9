use Rattle.std.proofs.Common.{◌≡◌, true, take}
use Rattle.std.specs.List.{AllByRecursion}
use Rattle.desk_law.specs.Statuses.{may_have}
use Rattle.sms_open.proofs.statuses.are_connected.Given as goal

-- it holds of the statuses that were gone over
abbrev pub invariant-loop-row : goal.invariant-loop-row
invariant-loop-row l = AllByRecursion (λ row. may_have row.target row.status ≡ true) (take l.row-index l.rows)
