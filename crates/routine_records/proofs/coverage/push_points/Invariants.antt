use Rattle.std.proofs.Common.{◌≡◌, ◌++◌, take}
use Rattle.std.specs.Prelude.{flat_map}
use Rattle.acs_coverage.specs.Counts.{tally_at}
use Rattle.routine_records.specs.PointRecords.{points_records}
use Rattle.routine_records.proofs.coverage.push_points.Given as goal

-- the records of the points that were gone over
abbrev pub invariant-loop-point : goal.invariant-loop-point
invariant-loop-point l = l.text.items ≡ l.initial.text.items ++ points_records l.form l.kind l.source (tally_at l.tallies) (take l.point-index l.points)
