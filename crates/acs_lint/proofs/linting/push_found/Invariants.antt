use Rattle.std.proofs.Common.{◌≡◌, ◌++◌, map, take}
use Rattle.std.specs.Prelude.{flat_map}
use Rattle.acs_lint.specs.Findings.{found_at}
use Rattle.acs_lint.proofs.linting.push_found.Given as goal

-- the findings on the statements that were gone over
abbrev pub invariant-loop-statement : goal.invariant-loop-statement
invariant-loop-statement l = l.found.items ≡ l.initial.found.items ++ flat_map found_at (map (λ statement. statement.now) (take l.statement-index l.statements))
