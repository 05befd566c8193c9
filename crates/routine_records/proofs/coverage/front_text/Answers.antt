use Rattle.std.proofs.Common.{◌++◌, ◌∙◌, ℕ, List, ap}
use Rattle.flat_records.specs.Records.{header_in}
use Rattle.routine_records.specs.PointRecords.{point_names}
use Rattle.routine_records.proofs.coverage.front_text.Goals as goal

pub returns : goal.returns
returns c = c.in_ok-push_header.ensures ∙ ap (λ (t : List ℕ). t ++ header_in c.args.form point_names) c.new-text.ensures.items
