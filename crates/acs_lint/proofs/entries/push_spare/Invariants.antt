use Rattle.std.proofs.Common.{◌≡◌, ◌++◌, drop, take}
use Rattle.acs_lint.specs.Entries.{spare_behind, spare_in}
use Rattle.acs_lint.proofs.entries.push_spare.Given as goal

-- what was found, and what is found on the entries behind
abbrev pub invariant-loop-place : goal.invariant-loop-place
invariant-loop-place l = l.found.items ++ spare_behind (take l.place l.entries) (drop l.place l.entries) ≡ l.initial.found.items ++ spare_in l.entries
