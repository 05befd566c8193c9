use Rattle.std.proofs.Common.{length}
use Rattle.fault_notes.proofs.finding.find_path.Given as goal

-- the path gets shorter
abbrev pub decreases-loop-front : goal.decreases-loop-front
decreases-loop-front l = length l.front
