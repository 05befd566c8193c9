-- What is told is of the finding.
use Rattle.std.proofs.Common.{◌≡◌, ◌++◌, ap, subst, sym}
use Rattle.std.specs.Prelude.{OnOk}
use Rattle.acs_lint.specs.declared.finding.Finding.{Finding}
use Rattle.lint_records.specs.FindingRecords.{record_in}
use Rattle.lint_records.specs.Told.{Told, told_in}
use Rattle.lint_records.proofs.records.push_in_routine.Goals as goal

pub returns-in-Unused : goal.returns-in-Unused
returns-in-Unused c =
    let same = ap (λ (finding : Finding). told_in c.args.routine.now c.args.source.now finding) (sym c.in-Unused.is) in
    subst (λ (told : Told). OnOk c.push_token-in-Unused.result (c.push_token-in-Unused.new.text.items ≡ c.args.text.now.items ++ record_in c.args.form told)) same c.push_token-in-Unused.ensures
