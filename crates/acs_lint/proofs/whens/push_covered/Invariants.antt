use Rattle.std.proofs.Common.{◌≡◌, ◌++◌, drop, take}
use Rattle.acs_lint.specs.Whens.{covered_behind, covered_in}
use Rattle.acs_lint.proofs.whens.push_covered.Given as goal

-- what was found, and what is found on the WHENs behind
abbrev pub invariant-loop-place : goal.invariant-loop-place
invariant-loop-place l = l.found.items ++ covered_behind l.subject (take l.place l.whens) (drop l.place l.whens) ≡ l.initial.found.items ++ covered_in l.subject l.whens
