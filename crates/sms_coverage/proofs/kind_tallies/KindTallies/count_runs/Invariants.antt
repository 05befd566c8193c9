use Rattle.std.proofs.Common.{◌++◌, List, take}
use Rattle.sms_coverage.specs.Events.{AreCounted}
use Rattle.sms_story.specs.declared.run.Run.{Run}
use Rattle.sms_coverage.proofs.kind_tallies.KindTallies.count_runs.Given as goal

-- the runs that were gone over are counted
abbrev pub invariant-loop-run : goal.invariant-loop-run
invariant-loop-run l = (before : List Run) → AreCounted before l.initial.self → AreCounted (before ++ take l.run-index l.runs) l.self
