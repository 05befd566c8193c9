-- What is told is of the finding.
use Rattle.std.proofs.Common.{◌≡◌, ◌++◌, ◌∙◌, ℕ, List, ap, codes, subst, sym}
use Rattle.std.specs.Prelude.{OnOk}
use Rattle.acs_tree.specs.declared.kind.Kind.TheVariants.{MgmtClas}
use Rattle.sms_lint.specs.declared.deck_finding.DeckFinding.{DeckFinding}
use Rattle.lint_records.specs.FindingRecords.{record_in}
use Rattle.lint_records.specs.Told.{Told, told, told_on}
use Rattle.lint_records.proofs.records.push_finding.Goals as goal

pub returns-in-NeverExpires : goal.returns-in-NeverExpires
returns-in-NeverExpires c =
    let named = ap (λ (name : List ℕ). told_on MgmtClas name (codes "NEVER EXPIRES WITHOUT RETPD")) c.bytes-in-NeverExpires.ensures.bytes in
    let same = named ∙ ap (λ (finding : DeckFinding). told c.args.sources.now finding) (sym c.in-NeverExpires.is) in
    subst (λ (t : Told). OnOk c.push_construct-in-NeverExpires.result (c.push_construct-in-NeverExpires.new.text.items ≡ c.args.text.now.items ++ record_in c.args.form t)) same c.push_construct-in-NeverExpires.ensures
