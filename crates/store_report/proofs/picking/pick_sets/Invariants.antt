-- With what is left, the rows are the whole.
use Rattle.std.proofs.Common.{◌≡◌, ◌++◌, length, map}
use Rattle.std.specs.Prelude.{filter}
use Rattle.store_report.specs.Selecting.{fits_set}
use Rattle.store_report.proofs.picking.pick_sets.Given as goal

abbrev pub invariant-loop-rest : goal.invariant-loop-rest
invariant-loop-rest l = map (λ set. set.now) l.picked.items ++ filter (fits_set l.selection) l.rest ≡ filter (fits_set l.selection) l.fn.sets

abbrev pub decreases-loop-rest : goal.decreases-loop-rest
decreases-loop-rest l = length l.rest
