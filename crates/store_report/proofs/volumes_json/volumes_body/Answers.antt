-- The text is the JSON.
use Rattle.std.proofs.Common.{◌++◌, ◌∙◌, ap}
use Rattle.store_report.specs.Inner.VolumePieces.{volumes_piece}
use Rattle.store_report.proofs.VolumeLemmas.{volumes_are}
use Rattle.store_report.proofs.volumes_json.volumes_body.Goals as goal

pub returns : goal.returns
returns c = c.in_ok-push_body.ensures ∙ ap (λ l. l ++ volumes_piece c.args.volumes.now) c.new-text.ensures.items ∙ volumes_are _
