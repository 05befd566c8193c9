-- The text is the page.
use Rattle.std.proofs.Common.{◌∙◌}
use Rattle.page_text.proofs.PutLemmas.{from_empty}
use Rattle.page_text.proofs.GroupLemmas.{shown_groups_is}
use Rattle.page_text.proofs.shown_groups_page.shown_groups_body.Goals as goal

pub returns : goal.returns
returns c = c.from_vec.ensures ∙ from_empty _ _ _ _ c.in_ok-push_page.ensures c.new-text.ensures.items (shown_groups_is _)
