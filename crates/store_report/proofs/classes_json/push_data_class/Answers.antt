-- The three parts are the JSON.
use Rattle.std.proofs.Common.{◌++◌, ◌∙◌, ap}
use Rattle.store_report.proofs.ClassLemmas.{data_class_is, three_behind}
use Rattle.store_report.proofs.classes_json.push_data_class.Goals as goal

pub returns : goal.returns
returns c =
    three_behind _ _ _ c.args.text.now.items _ _ _ c.in_ok-push_data_rest.ensures c.in_ok-push_space.ensures (rw c.bytes.ensures.bytes at c.in_ok-push_text.ensures)
    ∙ ap (λ l. c.args.text.now.items ++ l) (data_class_is c.args.class.now)
