use Rattle.std.proofs.Common.{◌≡◌, ◌++◌, map, take}
use Rattle.acs_coverage.specs.Points.{compared_with}
use Rattle.acs_coverage.proofs.points.comparisons.Given as goal

-- the comparisons with the items that were gone over
abbrev pub invariant-loop-item : goal.invariant-loop-item
invariant-loop-item l = l.points.items ≡ l.initial.points.items ++ map (compared_with l.subject) (take l.item-index l.items)
