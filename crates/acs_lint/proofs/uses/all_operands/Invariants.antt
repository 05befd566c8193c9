use Rattle.std.proofs.Common.{◌≡◌, map, take}
use Rattle.acs_lint.specs.Uses.{operands_in}
use Rattle.acs_lint.proofs.uses.all_operands.Given as goal

-- what is compared in the statements that were gone over
abbrev pub invariant-loop-statement : goal.invariant-loop-statement
invariant-loop-statement l = map (λ operand. operand.now) l.all.items ≡ operands_in (map (λ statement. statement.now) (take l.statement-index l.statements))
