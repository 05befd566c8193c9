-- The text is the page.
use Rattle.std.proofs.Common.{◌∙◌}
use Rattle.page_text.proofs.PutLemmas.{from_empty}
use Rattle.page_text.proofs.AnswerLemmas.{answers_is}
use Rattle.page_text.proofs.answers_page.answers_body.Goals as goal

pub returns : goal.returns
returns c = c.from_vec.ensures ∙ from_empty _ _ _ _ c.in_ok-push_page.ensures c.new-text.ensures.items (answers_is _)
