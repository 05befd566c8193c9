use Rattle.std.proofs.Common.{◌≡◌, ◌++◌, take}
use Rattle.std.specs.Prelude.{flat_map}
use Rattle.acs_coverage.specs.Counts.{tally_at}
use Rattle.acs_coverage.specs.CoverageText.{missed_text}
use Rattle.acs_coverage.proofs.coverage_text.push_missed.Given as goal

-- the points that were gone over
abbrev pub invariant-loop-point : goal.invariant-loop-point
invariant-loop-point l = l.text.items ≡ l.initial.text.items ++ flat_map (missed_text l.source (tally_at l.tallies)) (take l.point-index l.points)
