-- The text is the page.
use Rattle.std.proofs.Common.{◌≡◌, ◌∙◌, ap, take}
use Rattle.sms_script.specs.AnswerText.{answer_lines}
use Rattle.page_text.specs.AnswerBodies.{code_of}
use Rattle.page_text.specs.Inner.AnswerPieces.{check_text, first_of}
use Rattle.page_text.proofs.PutLemmas.{from_empty}
use Rattle.page_text.proofs.AnswerLemmas.{barred_is}
use Rattle.page_text.proofs.check_page.barred_body.Goals as goal

pub returns : goal.returns
returns c =
    let answer = c.args.answer.now in
    let code : c.code_of.result.now ≡ code_of answer.reply = c.code_of.ensures ∙ ap (λ l. take 3 (first_of l)) (c.as_slice.ensures ∙ c.in_ok-lines.ensures) in
    let lines : c.as_slice-2.result.now ≡ answer_lines answer = c.as_slice-2.ensures ∙ c.in_ok-lines.ensures in
    c.from_vec.ensures ∙ from_empty _ _ _ _ c.in_ok-push_check.ensures c.new-text.ensures.items (ap (λ l. check_text l c.as_slice-2.result.now) code ∙ ap (λ l. check_text (code_of answer.reply) l) lines ∙ barred_is answer.reply)
