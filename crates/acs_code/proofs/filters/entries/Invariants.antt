use Rattle.std.proofs.Common.{◌≡◌, ◌++◌, drop}
use Rattle.acs_tree.specs.Comparands.{entries_of}
use Rattle.acs_code.proofs.filters.entries.Given as goal

abbrev pub invariant-loop-operand : goal.invariant-loop-operand
invariant-loop-operand l = l.entries ++ entries_of l.whole (drop l.operand-index l.operands) ≡ entries_of l.whole l.operands
