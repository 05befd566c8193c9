use Rattle.std.proofs.Common.{take}
use Rattle.std.specs.List.{AllByRecursion}
use Rattle.desk_law.specs.Lawful.{LiesInPart}
use Rattle.sms_open.proofs.sets.are_in_part.Given as goal

-- it holds of the extents that were gone over
abbrev pub invariant-loop-extent : goal.invariant-loop-extent
invariant-loop-extent l = AllByRecursion LiesInPart (take l.extent-index l.extents)
