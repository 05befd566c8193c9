use Rattle.std.proofs.Common.{◌≡◌, ◌++◌, ◌∷◌, [], List, take}
use Rattle.sms_construct.specs.declared.data_set.DataSet.{DataSet}
use Rattle.desk_law.specs.State.{DeskState}
use Rattle.desk_law.specs.Lawful.{IsLawful}
use Rattle.sms_volumes.specs.Holding.{AreVolumesOf}
use Rattle.desk_restoring.specs.Inner.Placing.{sets_placed}
use Rattle.desk_restoring.specs.Inner.Replaying.{with_sets}
use Rattle.desk_restoring.proofs.placing.place.Given as goal

-- the data set has the extents that were gone over
abbrev pub invariant-loop-extent : goal.invariant-loop-extent
invariant-loop-extent l =
    (s : DeskState) (front : List DataSet) → IsLawful s → s.sets ≡ front ++ l.set ∷ [] → AreVolumesOf (with_sets s front) l.fn.volumes
    → AreVolumesOf (with_sets s (sets_placed front l.set (take l.extent-index l.set.extents))) l.volumes
