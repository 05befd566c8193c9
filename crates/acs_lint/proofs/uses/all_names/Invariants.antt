use Rattle.std.proofs.Common.{◌≡◌, map, take}
use Rattle.acs_lint.specs.Uses.{names_in}
use Rattle.acs_lint.proofs.uses.all_names.Given as goal

-- the names among the operands that were gone over
abbrev pub invariant-loop-operand : goal.invariant-loop-operand
invariant-loop-operand l = map (λ name. name.now) l.names.items ≡ names_in (map (λ operand. operand.now) (take l.operand-index l.operands))
