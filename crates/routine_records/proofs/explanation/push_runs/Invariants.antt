use Rattle.std.proofs.Common.{◌≡◌, ◌++◌, take}
use Rattle.std.specs.Prelude.{flat_map}
use Rattle.routine_records.specs.EventRecords.{run_records}
use Rattle.routine_records.proofs.explanation.push_runs.Given as goal

-- the records of the runs that were gone over
abbrev pub invariant-loop-run : goal.invariant-loop-run
invariant-loop-run l = l.text.items ≡ l.initial.text.items ++ flat_map (run_records l.form l.sources l.item) (take l.run-index l.runs)
