-- The parts are the JSON.
use Rattle.std.proofs.Common.{◌++◌, ◌∷◌, [], ◌∙◌, ℕ, List, ap, append_assoc}
use Rattle.serde_json.specs.Written.{compact_text}
use Rattle.lint_records.specs.FindingRecords.{finding_value}
use Rattle.lint_records.specs.Told.{Told}
use Rattle.lint_records.proofs.PieceLemmas.{finding_is}
use Rattle.lint_records.proofs.finding_record.push_line.Goals as goal

pub returns : goal.returns
returns c =
    let text = c.args.text.now.items in
    let told : Told = record { at = c.args.at.now; name = c.args.name.now; place = c.args.place; what = c.args.what.now; since = c.args.since } in
    c.in_ok-push.ensures.items
    ∙ ap (λ (t : List ℕ). t ++ 10 ∷ []) (c.in_ok-push_parts.ensures ∙ ap (λ (t : List ℕ). text ++ t) (finding_is told))
    ∙ append_assoc text (compact_text (finding_value told)) (10 ∷ [])
