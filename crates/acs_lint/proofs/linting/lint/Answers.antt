use Rattle.std.proofs.Common.{◌≡◌, List, subst, sym}
use Rattle.std.specs.List.{AllByRecursion}
use Rattle.std.proofs.lemmas.Result.{IfOk-weaker}
use Rattle.acs_lint.specs.Findings.{findings_of}
use Rattle.acs_lint.specs.Meant.{IsFinding}
use Rattle.acs_lint.specs.declared.finding.Finding.{Finding}
use Rattle.acs_lint.proofs.FindingLemmas.{findings_true}
use Rattle.acs_lint.proofs.linting.lint.Goals as goal

pub returns-clause-meant : goal.returns-clause-meant
returns-clause-meant c =
    IfOk-weaker c.all_found.result (λ (found : List Finding). found ≡ findings_of c.args.routine.now) (λ (found : List Finding). AllByRecursion (IsFinding c.args.routine.now) found)
    (λ found e. subst (λ (findings : List Finding). AllByRecursion (IsFinding c.args.routine.now) findings) (sym e) (findings_true c.args.routine.now)) c.all_found.ensures
