-- With what is left, the text is the whole.
use Rattle.std.proofs.Common.{◌≡◌, ◌++◌, false, length}
use Rattle.serde_json.specs.Written.{items_text}
use Rattle.store_report.specs.ClassesJson.{storage_class_values}
use Rattle.store_report.proofs.classes_json.push_storage_classes.Given as goal

abbrev pub invariant-loop-rest : goal.invariant-loop-rest
invariant-loop-rest l = l.text.items ++ items_text l.later (storage_class_values l.rest) ≡ l.fn.text.items ++ items_text false (storage_class_values l.fn.classes)

abbrev pub decreases-loop-rest : goal.decreases-loop-rest
decreases-loop-rest l = length l.rest
