use Rattle.std.proofs.Common.{◌≡◌, ◌≤◌, take}
use Rattle.std.specs.Prelude.{count_by}
use Rattle.acs_coverage.specs.Points.{is_of}
use Rattle.acs_coverage.proofs.coverage_text.count_of.Given as goal

-- how many of the points that were gone over are of the class
abbrev pub invariant-loop-point : goal.invariant-loop-point
invariant-loop-point l = (l.count ≡ count_by (is_of l.class) (take l.point-index l.points)) × (l.count ≤ l.point-index)
