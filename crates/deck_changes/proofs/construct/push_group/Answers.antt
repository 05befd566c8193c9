-- The parts stand one behind the other.
use Rattle.std.proofs.Common.{◌++◌, ◌∙◌, ℕ, List, ap, codes}
use Rattle.sms_script.specs.NameText.{status_text}
use Rattle.deck_changes.specs.DeckLines.{order_part, thresholds_part}
use Rattle.deck_changes.proofs.PartLemmas.{behind}
use Rattle.deck_changes.proofs.construct.push_group.Goals as goal

pub returns : goal.returns
returns c =
    let group = c.args.group.now in
    let start : List ℕ = c.args.text.now.items in
    let one : List ℕ = c.push_worded.new.text.items in
    let two : List ℕ = c.push_worded-2.new.text.items in
    let three : List ℕ = c.push_thresholds.new.text.items in
    let now : List ℕ = c.push_order.new.text.items in
    let named : List ℕ = codes "STORGRP " ++ group.name in
    let status : List ℕ = codes " status=" ++ status_text group.status in
    let name_put = c.in_ok-push_worded.ensures ∙ ap (λ (t : List ℕ). start ++ (codes "STORGRP " ++ t)) c.bytes.ensures.bytes in
    let status_put = c.in_ok-push_worded-2.ensures ∙ ap (λ (t : List ℕ). one ++ (codes " status=" ++ t)) c.status_bytes.ensures in
    let last = behind two (thresholds_part group) three (order_part group) now c.in_ok-push_thresholds.ensures c.in_ok-push_order.ensures in
    let behind_name = behind one status two (thresholds_part group ++ order_part group) now status_put last in
    behind start named one (status ++ (thresholds_part group ++ order_part group)) now name_put behind_name
