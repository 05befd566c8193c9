use Rattle.std.proofs.Common.{◌≡◌, ◌++◌, map, take}
use Rattle.acs_lint.specs.Uses.{unused_in}
use Rattle.acs_lint.proofs.uses.push_unused.Given as goal

-- the findings on the statements that were gone over
abbrev pub invariant-loop-statement : goal.invariant-loop-statement
invariant-loop-statement l = l.found.items ≡ l.initial.found.items ++ unused_in (map (λ name. name.now) l.names) (map (λ statement. statement.now) (take l.statement-index l.statements))
