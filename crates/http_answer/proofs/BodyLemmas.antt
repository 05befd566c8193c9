-- The body of an answer is its parts.
use Rattle.std.proofs.Common.{◌≡◌, ◌++◌, ◌∷◌, [], ap, append_assoc}
use Rattle.std.specs.Prelude.{codes, decimal}
use Rattle.json.specs.Print.{escape, escape_byte}
use Rattle.sms_construct.specs.declared.entry.Answer.{Answer}
use Rattle.sms_script.specs.AnswerText.{answer_lines}
use Rattle.http_answer.specs.AnswerBody.{answer_body, code_of}
use Rattle.http_answer.specs.Inner.Lines.{code_text, lines_text}

-- what stands before the lines, and the rest
pub body-parts : (answer : Answer) → code_text (code_of answer) answer.first ++ lines_text (answer_lines answer) answer.place ≡ answer_body answer
unfolding escape_byte
body-parts answer =
    ap (λ l. codes "{\"code\":\"" ++ l)
    (append_assoc (escape (code_of answer) ++ 34 ∷ []) (codes ",\"first\":" ++ decimal answer.first) (lines_text (answer_lines answer) answer.place))
