-- The three parts stand one behind the other.
use Rattle.std.specs.Prelude.{codes}
use Rattle.page_text.specs.Inner.AnswerPieces.{asked_piece, code_piece}
use Rattle.page_text.proofs.PutLemmas.{three_behind}
use Rattle.page_text.proofs.answers_page.push_rest.Goals as goal

pub returns : goal.returns
returns c =
    let entry = c.args.entry.now in
    three_behind _ _ _ c.args.text.now.items (code_piece entry.answer.reply) (asked_piece entry.request.op) (codes "}") c.in_ok-push.ensures.items c.in_ok-push_asked.ensures c.in_ok-push_code.ensures
