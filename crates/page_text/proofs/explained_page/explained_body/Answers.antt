-- The text is the page.
use Rattle.std.proofs.Common.{◌∙◌}
use Rattle.page_text.proofs.PutLemmas.{from_empty}
use Rattle.page_text.proofs.AnswerLemmas.{explained_is}
use Rattle.page_text.proofs.explained_page.explained_body.Goals as goal

pub returns : goal.returns
returns c = c.from_vec.ensures ∙ from_empty _ _ _ _ c.in_ok-push_explained.ensures c.new-text.ensures.items (explained_is _)
