-- The text is the page.
use Rattle.std.proofs.Common.{◌∙◌}
use Rattle.page_text.proofs.PutLemmas.{from_empty}
use Rattle.page_text.proofs.AnswerLemmas.{passed_is}
use Rattle.page_text.proofs.check_page.passed_body.Goals as goal

pub returns : goal.returns
returns c = c.from_vec.ensures ∙ from_empty _ _ _ _ c.in_ok-extend_from_slice.ensures.items c.new-text.ensures.items passed_is
