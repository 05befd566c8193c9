-- With what is left, the text is the whole.
use Rattle.std.proofs.Common.{◌≡◌, ◌++◌, false, length, map}
use Rattle.serde_json.specs.Written.{items_text}
use Rattle.page_text.specs.AnswerBodies.{entry_values}
use Rattle.page_text.proofs.answers_page.push_entries.Given as goal

abbrev pub invariant-loop-rest : goal.invariant-loop-rest
invariant-loop-rest l = l.text.items ++ items_text l.later (entry_values (map (λ entry. entry.now) l.rest)) ≡ l.fn.text.items ++ items_text false (entry_values (map (λ entry. entry.now) l.fn.entries))

abbrev pub decreases-loop-rest : goal.decreases-loop-rest
decreases-loop-rest l = length l.rest
