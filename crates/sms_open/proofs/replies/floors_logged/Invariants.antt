use Rattle.std.proofs.Common.{◌≡◌, ℕ, List, take}
use Rattle.sms_keeper.specs.Log.{floor_in}
use Rattle.desk_law.specs.Kept.{greatest_floor}
use Rattle.sms_open.proofs.replies.floors_logged.Given as goal

-- the log knows the floors that were gone over
abbrev pub invariant-loop-floor : goal.invariant-loop-floor
invariant-loop-floor l = (job : List ℕ) → floor_in job l.log.floors ≡ greatest_floor job (take l.floor-index l.floors)
