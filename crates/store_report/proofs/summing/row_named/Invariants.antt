-- With what is left, the sums are the whole.
use Rattle.std.proofs.Common.{◌≡◌, ◌≤◌, ◌+◌, ◌*◌, ◌^◌, length}
use Rattle.store_report.specs.GroupSums.{no_volumes, with_volumes}
use Rattle.store_report.proofs.summing.row_named.Given as goal

abbrev pub invariant-loop-rest : goal.invariant-loop-rest
invariant-loop-rest l = record {
  sums : with_volumes l.name l.row l.rest ≡ with_volumes l.name (no_volumes l.name) l.fn.rows;
  within : l.row.volumes + length l.rest ≤ length l.fn.rows;
  capacity : l.row.capacity ≤ 2 ^ 32 * l.row.volumes;
  free : l.row.free ≤ 2 ^ 32 * l.row.volumes;
}

abbrev pub decreases-loop-rest : goal.decreases-loop-rest
decreases-loop-rest l = length l.rest
