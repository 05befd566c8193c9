-- With what is left, the text is the whole.
use Rattle.std.proofs.Common.{◌≡◌, ◌++◌, false, length}
use Rattle.serde_json.specs.Written.{items_text}
use Rattle.store_report.specs.VolumesJson.{volume_values}
use Rattle.store_report.proofs.volumes_json.push_volumes.Given as goal

abbrev pub invariant-loop-rest : goal.invariant-loop-rest
invariant-loop-rest l = l.text.items ++ items_text l.later (volume_values l.rest) ≡ l.fn.text.items ++ items_text false (volume_values l.fn.volumes)

abbrev pub decreases-loop-rest : goal.decreases-loop-rest
decreases-loop-rest l = length l.rest
