use Rattle.std.proofs.Common.{◌≡◌, [], take}
use Rattle.desk_law.specs.State.{DeskState}
use Rattle.desk_law.specs.Lawful.{IsLawful}
use Rattle.sms_volumes.specs.Holding.{AreVolumesOf}
use Rattle.desk_restoring.specs.Inner.Replaying.{with_sets}
use Rattle.desk_restoring.proofs.placing.place_all.Given as goal

-- the data sets that were gone over hold their tracks
abbrev pub invariant-loop-set : goal.invariant-loop-set
invariant-loop-set l = (s : DeskState) → IsLawful s → s.sets ≡ l.sets → AreVolumesOf (with_sets s []) l.fn.volumes → AreVolumesOf (with_sets s (take l.set-index l.sets)) l.volumes
