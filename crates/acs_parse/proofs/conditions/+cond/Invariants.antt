use Rattle.std.proofs.Common.{length, ◌+◌, ◌*◌}
use Rattle.acs_parse.proofs.CondLemmas.{AndTurn, OrTurn}
use Rattle.acs_parse.proofs.conditions.+cond.Given as goal

abbrev pub invariant-conj-ands : goal.invariant-conj-ands
invariant-conj-ands l = AndTurn l.fn.total l.fn.depth l.fn.rest l.found l.count l.rest

abbrev pub decreases-conj-ands : goal.decreases-conj-ands
decreases-conj-ands l = length l.rest

abbrev pub invariant-cond-ors : goal.invariant-cond-ors
invariant-cond-ors l = OrTurn l.fn.total l.fn.depth l.fn.rest l.found l.count l.rest

abbrev pub decreases-cond-ors : goal.decreases-cond-ors
decreases-cond-ors l = length l.rest

abbrev pub decreases-prim : goal.decreases-prim
decreases-prim l = 3 * length l.rest.now

abbrev pub decreases-conj : goal.decreases-conj
decreases-conj l = 3 * length l.rest.now + 1

abbrev pub decreases-cond : goal.decreases-cond
decreases-cond l = 3 * length l.rest.now + 2
