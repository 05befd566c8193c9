use Rattle.std.proofs.Common.{◌≡◌, ◌≤◌, ◌++◌, drop, length, take}
use Rattle.acs_run.specs.Inner.Lines.{after_commas}
use Rattle.acs_run.proofs.line.put_more_volumes.Given as goal

abbrev pub invariant-loop-volume : goal.invariant-loop-volume
invariant-loop-volume l = (length l.draft ≤ 110) × (take 110 (l.draft ++ after_commas (drop l.volume-index l.volumes)) ≡ take 110 (l.initial.draft ++ after_commas l.volumes))
