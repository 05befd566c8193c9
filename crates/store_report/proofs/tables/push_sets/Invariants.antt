-- With what is left, the text is the whole.
use Rattle.std.proofs.Common.{◌≡◌, ◌++◌, length, map}
use Rattle.std.specs.Prelude.{flat_map}
use Rattle.csv.specs.Writing.{default_writer, row_text}
use Rattle.store_report.specs.Tables.{set_fields}
use Rattle.store_report.proofs.tables.push_sets.Given as goal

abbrev pub invariant-loop-rest : goal.invariant-loop-rest
invariant-loop-rest l =
    l.text.items ++ flat_map (λ set. row_text default_writer (set_fields set)) (map (λ set. set.now) l.rest)
    ≡ l.fn.text.items ++ flat_map (λ set. row_text default_writer (set_fields set)) (map (λ set. set.now) l.fn.sets)

abbrev pub decreases-loop-rest : goal.decreases-loop-rest
decreases-loop-rest l = length l.rest
