use Rattle.std.proofs.Common.{◌≡◌, ◌++◌, List, ap, subst}
use Rattle.std.specs.Prelude.{OnOk, Option}
use Rattle.sms_construct.specs.declared.management_class.MgmtClass.{MgmtClass}
use Rattle.sms_lint.specs.DeckFound.{never_expires_if}
use Rattle.sms_lint.specs.declared.deck_finding.DeckFinding.{DeckFinding}
use Rattle.sms_lint.proofs.constructs.push_if_named.Goals as goal

pub returns : goal.returns
returns c =
    subst (λ (findings : List DeckFinding). OnOk c.push_if_unending.result (c.push_if_unending.new.found.items ≡ c.args.found.now.items ++ findings)) (ap never_expires_if c.mgmt_class.ensures) c.push_if_unending.ensures
