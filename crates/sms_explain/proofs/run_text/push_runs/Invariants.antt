use Rattle.std.proofs.Common.{◌≡◌, ◌++◌, take}
use Rattle.std.specs.Prelude.{flat_map}
use Rattle.sms_explain.specs.RunText.{run_text}
use Rattle.sms_explain.proofs.run_text.push_runs.Given as goal

-- the runs so far
abbrev pub invariant-loop-run : goal.invariant-loop-run
invariant-loop-run l = l.text.items ≡ l.initial.text.items ++ flat_map (run_text l.sources) (take l.run-index l.runs)
