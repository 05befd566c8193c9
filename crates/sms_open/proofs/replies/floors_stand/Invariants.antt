use Rattle.std.proofs.Common.{◌≤◌, take}
use Rattle.std.specs.List.{AllByRecursion}
use Rattle.sms_open.proofs.replies.floors_stand.Given as goal

-- it holds of the floors that were gone over
abbrev pub invariant-loop-floor : goal.invariant-loop-floor
invariant-loop-floor l = AllByRecursion (λ floor. 1 ≤ floor.floor) (take l.floor-index l.floors)
