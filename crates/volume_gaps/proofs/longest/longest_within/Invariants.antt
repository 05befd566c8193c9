-- With what is left, the most is that of the whole.
use Rattle.std.proofs.Common.{◌≡◌, length}
use Rattle.std.specs.Prelude.{max}
use Rattle.volume_gaps.specs.Inner.Walking.{most_before}
use Rattle.volume_gaps.proofs.longest.longest_within.Given as goal

abbrev pub invariant-loop-rest : goal.invariant-loop-rest
invariant-loop-rest l = max l.most (most_before l.at l.fn.end l.rest) ≡ most_before l.fn.from l.fn.end l.fn.pieces

abbrev pub decreases-loop-rest : goal.decreases-loop-rest
decreases-loop-rest l = length l.rest
