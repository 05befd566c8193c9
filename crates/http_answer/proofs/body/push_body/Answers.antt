use Rattle.std.proofs.Common.{◌++◌, ◌∙◌, ap, take}
use Rattle.http_answer.specs.AnswerBody.{answer_body, code_of}
use Rattle.http_answer.specs.Inner.Lines.{code_text, first_of, lines_text}
use Rattle.sms_script.specs.AnswerText.{answer_lines}
use Rattle.http_answer.proofs.BodyLemmas.{body-parts}
use Rattle.http_answer.proofs.TextLemmas.{on-behind, on-same}
use Rattle.http_answer.proofs.body.push_body.Goals as goal

-- the two parts are the body
pub returns : goal.returns
returns c =
    let answer = c.args.answer.now in
    on-same c.push_lines.result c.push_lines.new.text.items c.args.text.now.items _ (answer_body answer) (body-parts answer)
    (on-behind c.push_lines.result c.push_lines.new.text.items c.push_code.new.text.items c.args.text.now.items
    (code_text (code_of answer) answer.first) (lines_text (answer_lines answer) answer.place)
    (on-same c.push_lines.result c.push_lines.new.text.items c.push_code.new.text.items _ _ (ap (λ l. lines_text l answer.place) (c.as_slice-2.ensures ∙ c.in_ok-lines.ensures)) c.push_lines.ensures)
    (c.in_ok-push_code.ensures ∙ ap (λ l. c.args.text.now.items ++ code_text l answer.first) (c.code_of.ensures ∙ ap (λ l. take 3 (first_of l)) (c.as_slice.ensures ∙ c.in_ok-lines.ensures))))
