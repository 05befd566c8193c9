-- With what is left, the rows are the whole.
use Rattle.std.proofs.Common.{◌≡◌, ◌++◌, length, map}
use Rattle.std.specs.Prelude.{filter}
use Rattle.store_report.specs.GroupSums.{group_row}
use Rattle.store_report.specs.Selecting.{fits_group}
use Rattle.store_report.proofs.summing.pick_groups.Given as goal

abbrev pub invariant-loop-rest : goal.invariant-loop-rest
invariant-loop-rest l =
    l.picked.items ++ filter (fits_group l.selection) (map (group_row l.rows) l.rest)
    ≡ filter (fits_group l.selection) (map (group_row l.rows) l.fn.groups)

abbrev pub decreases-loop-rest : goal.decreases-loop-rest
decreases-loop-rest l = length l.rest
