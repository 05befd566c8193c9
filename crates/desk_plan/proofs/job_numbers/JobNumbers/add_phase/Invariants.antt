use Rattle.std.specs.Prelude.{take}
use Rattle.desk_plan.specs.Numbering.{Renumbers, with_jobs}
use Rattle.desk_plan.proofs.job_numbers.JobNumbers.add_phase.Given as goal

-- the jobs of the items so far have numbers
abbrev pub invariant-loop-item : goal.invariant-loop-item
invariant-loop-item l = Renumbers (λ jobs. with_jobs jobs (take l.item-index l.items)) l.initial.self l.self
