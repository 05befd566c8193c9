-- With what is left, the pieces are the whole.
use Rattle.std.proofs.Common.{◌≡◌, ◌++◌, length}
use Rattle.desk_law.specs.Extents.{pieces_on}
use Rattle.volume_gaps.proofs.measuring.pieces_on.Given as goal

abbrev pub invariant-loop-rest : goal.invariant-loop-rest
invariant-loop-rest l = l.pieces.items ++ pieces_on l.fn.volser l.rest ≡ pieces_on l.fn.volser l.fn.extents

abbrev pub decreases-loop-rest : goal.decreases-loop-rest
decreases-loop-rest l = length l.rest
