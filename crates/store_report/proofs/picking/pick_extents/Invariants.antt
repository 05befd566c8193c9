-- With what is left, the rows are the whole.
use Rattle.std.proofs.Common.{◌≡◌, ◌++◌, length, map}
use Rattle.std.specs.Prelude.{flat_map}
use Rattle.store_report.specs.Selecting.{extents_on}
use Rattle.store_report.proofs.picking.pick_extents.Given as goal

abbrev pub invariant-loop-rest : goal.invariant-loop-rest
invariant-loop-rest l = l.rows.items ++ flat_map (extents_on l.volume) (map (λ set. set.now) l.rest) ≡ flat_map (extents_on l.volume) (map (λ set. set.now) l.fn.sets)

abbrev pub decreases-loop-rest : goal.decreases-loop-rest
decreases-loop-rest l = length l.rest
