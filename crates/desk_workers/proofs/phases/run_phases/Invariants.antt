use Rattle.std.specs.Prelude.{◌≡◌, take}
use Rattle.desk_workers.specs.Phases.{AreAnswered}
use Rattle.desk_workers.proofs.phases.run_phases.Given as goal

-- the phases so far are answered
abbrev pub invariant-loop-phase : goal.invariant-loop-phase
invariant-loop-phase g l = AreAnswered (take l.phase-index l.phases) l.answers.items l.initial.core.journal l.core.journal × ((l.core.opening ≡ l.initial.core.opening) × (l.core.mark ≡ l.initial.core.mark))
