-- With what is left, the rows are the whole.
use Rattle.std.proofs.Common.{◌≡◌, ◌++◌, length, map}
use Rattle.std.specs.Prelude.{filter}
use Rattle.store_report.specs.Selecting.{is_on, row_of}
use Rattle.store_report.proofs.picking.push_rows.Given as goal

abbrev pub invariant-loop-rest : goal.invariant-loop-rest
invariant-loop-rest l = l.rows.items ++ map (row_of l.dsn) (filter (is_on l.volume) l.rest) ≡ l.fn.rows.items ++ map (row_of l.dsn) (filter (is_on l.volume) l.fn.extents)

abbrev pub decreases-loop-rest : goal.decreases-loop-rest
decreases-loop-rest l = length l.rest
