-- The parts are the JSON.
use Rattle.std.proofs.Common.{◌++◌, ◌∷◌, [], ◌∙◌, ℕ, List, ap, append_assoc}
use Rattle.serde_json.specs.Written.{compact_text}
use Rattle.acs_test.specs.CaseRecords.{case_value}
use Rattle.sms_outcomes.specs.Outcomes.{classes_made}
use Rattle.acs_test.proofs.RecordTextLemmas.{case_is}
use Rattle.acs_test.proofs.case_json.push_line.Goals as goal

pub returns : goal.returns
returns c =
    let text = c.args.text.now.items in
    let case = c.args.case.now in
    let old = classes_made c.args.before.now c.args.old.now in
    let new = classes_made c.args.after.now c.args.new.now in
    c.in_ok-push.ensures.items
    ∙ ap (λ (t : List ℕ). t ++ 10 ∷ []) (c.in_ok-push_parts.ensures ∙ ap (λ (t : List ℕ). text ++ t) (case_is case old new c.args.same))
    ∙ append_assoc text (compact_text (case_value case old new c.args.same)) (10 ∷ [])
