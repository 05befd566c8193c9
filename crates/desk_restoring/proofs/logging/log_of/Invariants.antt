use Rattle.std.proofs.Common.{take}
use Rattle.desk_records.specs.Tied.{IsLogOf}
use Rattle.desk_restoring.proofs.logging.log_of.Given as goal

-- the replies that were gone over are kept
abbrev pub invariant-loop-row : goal.invariant-loop-row
invariant-loop-row l = IsLogOf l.floors (take l.row-index l.replies) l.log
