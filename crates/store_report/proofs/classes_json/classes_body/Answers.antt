-- The text is the JSON.
use Rattle.std.proofs.Common.{◌++◌, ◌∙◌, ap}
use Rattle.store_report.specs.Inner.ClassPieces.{classes_piece}
use Rattle.store_report.proofs.ClassLemmas.{classes_are}
use Rattle.store_report.proofs.classes_json.classes_body.Goals as goal

pub returns : goal.returns
returns c = c.in_ok-push_body.ensures ∙ ap (λ l. l ++ classes_piece c.args.data_classes.now c.args.storage_classes.now c.args.management_classes.now) c.new-text.ensures.items ∙ classes_are _ _ _
