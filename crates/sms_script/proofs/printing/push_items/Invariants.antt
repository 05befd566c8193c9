use Rattle.std.proofs.Common.{◌≡◌, ◌++◌, drop}
use Rattle.sms_script.specs.AnswerText.{items_text}
use Rattle.sms_script.proofs.printing.push_items.Given as goal

-- the text so far, and that of the items that are left
abbrev pub invariant-loop-at : goal.invariant-loop-at
invariant-loop-at l = l.text.items ++ items_text (drop l.at l.items) (drop l.at l.answers) ≡ l.initial.text.items ++ items_text l.items l.answers
