use Rattle.std.proofs.Common.{◌≡◌, ◌++◌, take}
use Rattle.sms_lint.specs.DeckFound.{in_routine}
use Rattle.sms_lint.proofs.routines.push_findings.Given as goal

-- the findings that were gone over
abbrev pub invariant-loop-finding : goal.invariant-loop-finding
invariant-loop-finding l = l.found.items ≡ l.initial.found.items ++ in_routine l.kind (take l.finding-index l.findings)
