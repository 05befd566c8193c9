-- The text is the page.
use Rattle.std.proofs.Common.{◌∙◌}
use Rattle.page_text.proofs.PutLemmas.{from_empty}
use Rattle.page_text.proofs.AnswerLemmas.{classified_is}
use Rattle.page_text.proofs.classified_page.classified_body.Goals as goal

pub returns : goal.returns
returns c = c.from_vec.ensures ∙ from_empty _ _ _ _ c.in_ok-push_classified.ensures c.new-text.ensures.items (classified_is _ _)
