-- The parts are the JSON.
use Rattle.std.proofs.Common.{◌++◌, ◌∙◌, ℕ, List, ap, append_assoc, false}
use Rattle.serde_json.specs.Written.{members_text}
use Rattle.sms_outcomes.specs.Inner.Pieces.{head_piece}
use Rattle.sms_outcomes.specs.Outcomes.{classes_made, side_members}
use Rattle.sms_outcomes.proofs.PieceLemmas.{item_is}
use Rattle.sms_outcomes.proofs.item_record.push_value.Goals as goal

pub returns : goal.returns
returns c =
    let text = c.args.text.now.items in
    let item = c.args.item.now in
    let classes = classes_made c.args.made.now c.args.written.now in
    let members = members_text false (side_members classes) in
    c.in_ok-push_members.ensures
    ∙ ap (λ (t : List ℕ). t ++ members) c.in_ok-push_head.ensures
    ∙ append_assoc text (head_piece item) members
    ∙ ap (λ (t : List ℕ). text ++ t) (item_is item classes)
