use Rattle.std.proofs.Common.{true, length}
use Rattle.acs_parse.proofs.StatementLemmas.{BlockTurn}
use Rattle.acs_parse.proofs.statements.body.Given as goal

abbrev pub invariant-items : goal.invariant-items
invariant-items l = BlockTurn l.fn.total 0 true l.fn.rest l.rest l.found

abbrev pub decreases-items : goal.decreases-items
decreases-items l = length l.rest
