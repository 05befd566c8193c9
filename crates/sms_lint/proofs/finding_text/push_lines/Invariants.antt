use Rattle.std.proofs.Common.{◌≡◌, ◌++◌, take}
use Rattle.std.specs.Prelude.{flat_map}
use Rattle.sms_lint.specs.LintText.{finding_line}
use Rattle.sms_lint.proofs.finding_text.push_lines.Given as goal

-- the lines of the findings that were gone over
abbrev pub invariant-loop-finding : goal.invariant-loop-finding
invariant-loop-finding l = l.text.items ≡ l.initial.text.items ++ flat_map (finding_line l.sources) (take l.finding-index l.findings)
