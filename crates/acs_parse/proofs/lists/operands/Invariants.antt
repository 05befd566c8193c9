use Rattle.std.proofs.Common.{length}
use Rattle.acs_parse.proofs.OperandLemmas.{ListTurn}
use Rattle.acs_parse.proofs.lists.operands.Given as goal

abbrev pub invariant-more : goal.invariant-more
invariant-more l = ListTurn l.fn.total l.fn.kind l.fn.rest l.rest l.list

abbrev pub decreases-more : goal.decreases-more
decreases-more l = length l.rest
