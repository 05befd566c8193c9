use Rattle.std.proofs.Common.{◌≡◌, map, take}
use Rattle.acs_lint.specs.Uses.{values_in}
use Rattle.acs_lint.proofs.sets.all_values.Given as goal

-- the values that the statements set that were gone over
abbrev pub invariant-loop-statement : goal.invariant-loop-statement
invariant-loop-statement l = map (λ value. value.now) l.all.items ≡ values_in (map (λ statement. statement.now) (take l.statement-index l.statements))
