use Rattle.std.proofs.Common.{◌≡◌, ℕ, List, None, take}
use Rattle.sms_keeper.specs.declared.request_key.RequestKey.{RequestKey}
use Rattle.sms_keeper.specs.Log.{floor_in, kept_in}
use Rattle.desk_law.specs.Kept.{greatest_floor}
use Rattle.desk_restoring.proofs.logging.floors_of.Given as goal

-- the floors that were gone over stand, and no reply is kept
abbrev pub invariant-loop-row : goal.invariant-loop-row
invariant-loop-row l = record {
  raised : (job : List ℕ) → floor_in job l.log.floors ≡ greatest_floor job (take l.row-index l.floors);
  none : (key : RequestKey) → kept_in key l.log.kept ≡ None;
}
