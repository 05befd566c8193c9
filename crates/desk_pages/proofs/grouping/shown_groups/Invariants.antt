-- With what is left, the rows are the whole.
use Rattle.std.proofs.Common.{◌≡◌, ◌++◌, length, map}
use Rattle.desk_pages.specs.Groups.{shown_group}
use Rattle.desk_pages.proofs.grouping.shown_groups.Given as goal

abbrev pub invariant-loop-rest : goal.invariant-loop-rest
invariant-loop-rest l = l.found.items ++ map (shown_group l.rows) l.rest ≡ map (shown_group l.rows) l.fn.groups

abbrev pub decreases-loop-rest : goal.decreases-loop-rest
decreases-loop-rest l = length l.rest
