use Rattle.acs_lint.proofs.ByteTurns.{star_turn, pair_turn, star_smaller}
use Rattle.acs_lint.proofs.piece_covering.walk.Goals as goal

pub walk-smaller-in-Star : goal.walk-smaller-in-Star
walk-smaller-in-Star c = star_smaller c.walk.invariant c.in-Star.ensures

pub walk-preserved-in-Star : goal.walk-preserved-in-Star
walk-preserved-in-Star c = star_turn c.walk.invariant c.in-Star.ensures

pub walk-preserved-in-Pair : goal.walk-preserved-in-Pair
walk-preserved-in-Pair c = pair_turn c.walk.invariant c.in-Pair.ensures
