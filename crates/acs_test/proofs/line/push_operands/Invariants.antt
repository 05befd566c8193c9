use Rattle.std.proofs.Common.{◌≡◌, ◌++◌, drop, map}
use Rattle.acs_test.specs.AllocLine.{operands_text}
use Rattle.acs_test.proofs.line.push_operands.Given as goal

-- the line so far, and the operands that are left
abbrev pub invariant-loop-at : goal.invariant-loop-at
invariant-loop-at l = l.line.items ++ operands_text (drop l.at l.columns) (map (λ field. field.now) (drop l.at l.fields)) ≡ l.initial.line.items ++ operands_text l.columns (map (λ field. field.now) l.fields)
