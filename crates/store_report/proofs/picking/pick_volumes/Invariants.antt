-- With what is left, the rows are the whole.
use Rattle.std.proofs.Common.{◌≡◌, ◌++◌, length}
use Rattle.std.specs.Prelude.{filter}
use Rattle.store_report.specs.Selecting.{fits_volume}
use Rattle.store_report.proofs.picking.pick_volumes.Given as goal

abbrev pub invariant-loop-rest : goal.invariant-loop-rest
invariant-loop-rest l = l.picked.items ++ filter (fits_volume l.selection) l.rest ≡ filter (fits_volume l.selection) l.fn.rows

abbrev pub decreases-loop-rest : goal.decreases-loop-rest
decreases-loop-rest l = length l.rest
