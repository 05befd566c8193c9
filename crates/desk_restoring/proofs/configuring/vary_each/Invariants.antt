use Rattle.std.proofs.Common.{take}
use Rattle.desk_law.specs.State.{DeskState}
use Rattle.desk_law.specs.Lawful.{IsLawful}
use Rattle.sms_volumes.specs.Holding.{AreVolumesOf}
use Rattle.desk_restoring.specs.Inner.Replaying.{statuses_varied, with_statuses}
use Rattle.desk_restoring.proofs.configuring.vary_each.Given as goal

-- the targets of the rows that were gone over have their statuses
abbrev pub invariant-loop-row : goal.invariant-loop-row
invariant-loop-row l = (s : DeskState) → IsLawful s → AreVolumesOf s l.fn.volumes → AreVolumesOf (with_statuses s (statuses_varied (take l.row-index l.rows) s.statuses)) l.volumes
