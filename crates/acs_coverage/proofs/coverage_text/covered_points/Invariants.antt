use Rattle.std.proofs.Common.{◌≡◌, ◌≤◌, take}
use Rattle.std.specs.Prelude.{count_by}
use Rattle.acs_coverage.specs.Counts.{tally_at}
use Rattle.acs_coverage.specs.CoverageText.{is_covered_by}
use Rattle.acs_coverage.proofs.coverage_text.covered_points.Given as goal

-- how many of the points that were gone over are covered
abbrev pub invariant-loop-point : goal.invariant-loop-point
invariant-loop-point l = (l.count ≡ count_by (is_covered_by (tally_at l.tallies)) (take l.point-index l.points)) × (l.count ≤ l.point-index)
