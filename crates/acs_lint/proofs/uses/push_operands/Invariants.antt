use Rattle.std.proofs.Common.{◌≡◌, ◌++◌, map, take}
use Rattle.acs_lint.proofs.uses.push_operands.Given as goal

-- the operands that were gone over
abbrev pub invariant-loop-operand : goal.invariant-loop-operand
invariant-loop-operand l = map (λ operand. operand.now) l.all.items ≡ map (λ operand. operand.now) l.initial.all.items ++ take l.operand-index l.operands
