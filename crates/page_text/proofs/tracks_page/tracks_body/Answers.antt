-- The text is the page.
use Rattle.std.proofs.Common.{◌∙◌}
use Rattle.page_text.proofs.PutLemmas.{from_empty}
use Rattle.page_text.proofs.TrackLemmas.{tracks_is}
use Rattle.page_text.proofs.tracks_page.tracks_body.Goals as goal

pub returns : goal.returns
returns c = c.from_vec.ensures ∙ from_empty _ _ _ _ c.in_ok-push_page.ensures c.new-text.ensures.items (tracks_is c.args.row.now c.args.extents.now c.args.gaps.now c.args.next)
