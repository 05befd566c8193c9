use Rattle.fault_notes.proofs.left_side.set_target.Given as goal

abbrev pub decreases-loop-at : goal.decreases-loop-at
decreases-loop-at l = l.at
