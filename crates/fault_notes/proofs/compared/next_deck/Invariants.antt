use Rattle.std.proofs.Common.{length}
use Rattle.fault_notes.proofs.compared.next_deck.Given as goal

abbrev pub decreases-loop-line : goal.decreases-loop-line
decreases-loop-line l = length l.left.text.now
