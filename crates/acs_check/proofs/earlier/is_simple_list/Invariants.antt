use Rattle.std.proofs.Common.{◌≡◌, drop}
use Rattle.acs_tree.specs.FilterLists.{list_named}
use Rattle.acs_check.proofs.earlier.is_simple_list.Given as goal

abbrev pub invariant-loop-index : goal.invariant-loop-index
invariant-loop-index l = list_named (drop l.index l.statements) l.name ≡ list_named l.statements l.name
