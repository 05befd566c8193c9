use Rattle.std.proofs.Common.{length}
use Rattle.fault_notes.proofs.finding.find_second.Given as goal

-- what is left gets shorter
abbrev pub decreases-loop-rest : goal.decreases-loop-rest
decreases-loop-rest l = length l.rest
