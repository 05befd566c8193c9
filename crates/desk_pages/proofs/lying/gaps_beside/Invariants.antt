-- With what is left, the gaps are the whole.
use Rattle.std.proofs.Common.{◌≡◌, ◌++◌, length}
use Rattle.desk_pages.specs.Lying.{gaps_beside}
use Rattle.desk_pages.proofs.lying.gaps_beside.Given as goal

abbrev pub invariant-loop-rest : goal.invariant-loop-rest
invariant-loop-rest l = l.gaps.items ++ gaps_beside l.fn.end l.at l.rest ≡ gaps_beside l.fn.end l.fn.from l.fn.extents

abbrev pub decreases-loop-rest : goal.decreases-loop-rest
decreases-loop-rest l = length l.rest
