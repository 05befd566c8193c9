-- The figures are the JSON.
use Rattle.std.proofs.Common.{◌++◌, ◌∙◌, ap}
use Rattle.page_text.proofs.TrackLemmas.{set_extent_is}
use Rattle.page_text.proofs.tracks_page.push_extent.Goals as goal

pub returns : goal.returns
returns c = c.in_ok-push_place.ensures ∙ ap (λ l. c.args.text.now.items ++ l) (set_extent_is c.args.extent.now)
