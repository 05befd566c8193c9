use Rattle.std.proofs.Common.{◌≡◌, List, subst, sym}
use Rattle.std.specs.List.{AllByRecursion}
use Rattle.std.proofs.lemmas.Result.{IfOk-weaker}
use Rattle.toml.specs.View.{table_view}
use Rattle.sms_lint.specs.DeckFound.{findings_in}
use Rattle.sms_lint.specs.DeckMeant.{IsDeckFinding}
use Rattle.sms_lint.specs.Linting.{AreFindingsIn}
use Rattle.sms_lint.specs.declared.deck_finding.DeckFinding.{DeckFinding}
use Rattle.sms_lint.proofs.DeckLemmas.{deck_true}
use Rattle.sms_lint.proofs.linting.all_findings.Goals as goal

pub returns : goal.returns
returns c =
    let config = c.args.config.now in
    let top = table_view c.args.top.now in
    IfOk-weaker c.all_found.result (λ (found : List DeckFinding). found ≡ findings_in config top) (λ (found : List DeckFinding). AreFindingsIn config top found)
    (λ found e. record { found = e; meant = subst (λ (findings : List DeckFinding). AllByRecursion (IsDeckFinding config) findings) (sym e) (deck_true config top) }) c.all_found.ensures
