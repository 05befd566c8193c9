use Rattle.std.proofs.Common.{◌≡◌, ◌≤◌, take}
use Rattle.std.specs.Prelude.{count_by}
use Rattle.acs_coverage.specs.Counts.{tally_at}
use Rattle.acs_coverage.specs.CoverageText.{is_covered_of}
use Rattle.acs_coverage.proofs.coverage_text.covered_of.Given as goal

-- how many of the points that were gone over are of the class and covered
abbrev pub invariant-loop-point : goal.invariant-loop-point
invariant-loop-point l = (l.count ≡ count_by (is_covered_of l.class (tally_at l.tallies)) (take l.point-index l.points)) × (l.count ≤ l.point-index)
