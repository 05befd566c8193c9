-- With what is left, the extents are the whole.
use Rattle.std.proofs.Common.{◌≡◌, ◌++◌, length}
use Rattle.desk_law.specs.Extents.{extents_of}
use Rattle.volume_gaps.proofs.measuring.all_extents.Given as goal

abbrev pub invariant-loop-rest : goal.invariant-loop-rest
invariant-loop-rest l = l.extents.items ++ extents_of l.rest ≡ extents_of l.fn.sets

abbrev pub decreases-loop-rest : goal.decreases-loop-rest
decreases-loop-rest l = length l.rest
