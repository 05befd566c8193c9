-- The parts are the JSON.
use Rattle.std.proofs.Common.{◌++◌, ◌∙◌, ap}
use Rattle.store_report.proofs.ClassLemmas.{management_class_is}
use Rattle.store_report.proofs.classes_json.push_management_class.Goals as goal

pub returns : goal.returns
returns c = c.in_ok-push_management_parts.ensures ∙ ap (λ l. c.args.text.now.items ++ l) (management_class_is c.args.class.now)
