-- The text is the JSON.
use Rattle.std.proofs.Common.{◌++◌, ◌∙◌, ap}
use Rattle.store_report.specs.Inner.Pieces.{extents_piece}
use Rattle.store_report.proofs.ExtentLemmas.{extents_are}
use Rattle.store_report.proofs.extents_json.extents_body.Goals as goal

pub returns : goal.returns
returns c = c.in_ok-push_body.ensures ∙ ap (λ l. l ++ extents_piece c.args.rows.now) c.new-text.ensures.items ∙ extents_are _
