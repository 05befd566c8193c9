use Rattle.std.proofs.Common.{◌≡◌, ◌≤◌, ◌++◌, drop, length, take}
use Rattle.acs_run.specs.Inner.Lines.{after_commas}
use Rattle.acs_run.proofs.line.put_more_groups.Given as goal

abbrev pub invariant-loop-group : goal.invariant-loop-group
invariant-loop-group l = (length l.draft ≤ 110) × (take 110 (l.draft ++ after_commas (drop l.group-index l.groups)) ≡ take 110 (l.initial.draft ++ after_commas l.groups))
