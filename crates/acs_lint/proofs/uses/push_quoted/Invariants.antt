use Rattle.std.proofs.Common.{◌≡◌, ◌++◌, map, take}
use Rattle.acs_lint.specs.Uses.{quoted_in}
use Rattle.acs_lint.proofs.uses.push_quoted.Given as goal

-- the findings on the operands that were gone over
abbrev pub invariant-loop-operand : goal.invariant-loop-operand
invariant-loop-operand l = l.found.items ≡ l.initial.found.items ++ quoted_in (map (λ operand. operand.now) (take l.operand-index l.operands))
