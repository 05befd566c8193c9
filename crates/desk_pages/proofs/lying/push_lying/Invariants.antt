-- With what is left, the extents are the whole.
use Rattle.std.proofs.Common.{◌≡◌, ◌++◌, length}
use Rattle.desk_pages.specs.Lying.{lying_in}
use Rattle.desk_pages.proofs.lying.push_lying.Given as goal

abbrev pub invariant-loop-rest : goal.invariant-loop-rest
invariant-loop-rest l = l.extents.items ++ lying_in l.fn.volser l.fn.from l.fn.set.dsn l.rest ≡ l.fn.extents.items ++ lying_in l.fn.volser l.fn.from l.fn.set.dsn l.fn.set.extents

abbrev pub decreases-loop-rest : goal.decreases-loop-rest
decreases-loop-rest l = length l.rest
