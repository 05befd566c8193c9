-- The figures are the JSON.
use Rattle.std.proofs.Common.{◌++◌, ◌∙◌, ap}
use Rattle.page_text.proofs.TrackLemmas.{gap_is}
use Rattle.page_text.proofs.tracks_page.push_gap.Goals as goal

pub returns : goal.returns
returns c = c.in_ok-push_room.ensures ∙ ap (λ l. c.args.text.now.items ++ l) (gap_is c.args.gap.now)
