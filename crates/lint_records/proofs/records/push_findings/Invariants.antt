use Rattle.std.proofs.Common.{◌≡◌, ◌++◌, take}
use Rattle.std.specs.Prelude.{flat_map}
use Rattle.lint_records.specs.FindingRecords.{finding_record}
use Rattle.lint_records.proofs.records.push_findings.Given as goal

-- the records of the findings that were gone over
abbrev pub invariant-loop-finding : goal.invariant-loop-finding
invariant-loop-finding l = l.text.items ≡ l.initial.text.items ++ flat_map (finding_record l.form l.sources) (take l.finding-index l.findings)
