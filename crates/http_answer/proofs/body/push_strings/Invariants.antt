use Rattle.std.proofs.Common.{◌≡◌, ◌++◌, false, length}
use Rattle.serde_json.specs.Written.{items_text}
use Rattle.http_answer.specs.AnswerBody.{strings_of}
use Rattle.http_answer.proofs.body.push_strings.Given as goal

-- with what is left, the text is the whole
abbrev pub invariant-loop-rest : goal.invariant-loop-rest
invariant-loop-rest l = l.text.items ++ items_text l.later (strings_of l.rest) ≡ l.fn.text.items ++ items_text false (strings_of l.fn.lines)

abbrev pub decreases-loop-rest : goal.decreases-loop-rest
decreases-loop-rest l = length l.rest
