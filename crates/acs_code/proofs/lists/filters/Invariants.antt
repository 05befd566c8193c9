use Rattle.std.proofs.Common.{◌≡◌, ◌++◌}
use Rattle.acs_code.specs.Compiled.{filters_in}
use Rattle.acs_code.proofs.lists.filters.Given as goal

abbrev pub invariant-loop-list : goal.invariant-loop-list
invariant-loop-list l = l.filters ++ filters_in l.list-iterator.rest.items ≡ filters_in l.fn.lists.items
