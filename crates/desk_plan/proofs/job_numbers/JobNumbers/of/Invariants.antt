use Rattle.std.specs.Prelude.{take}
use Rattle.sms_script.specs.Script.{items_of}
use Rattle.desk_plan.specs.Numbering.{AreNumbersOf, numbered_jobs}
use Rattle.desk_plan.proofs.job_numbers.JobNumbers.of.Given as goal

-- the jobs of the phases so far have numbers
abbrev pub invariant-loop-phase : goal.invariant-loop-phase
invariant-loop-phase l = AreNumbersOf (numbered_jobs (items_of (take l.phase-index l.phases))) l.numbers
