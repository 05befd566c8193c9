use Rattle.acs_lint.proofs.QualifierTurns.{stars_step, pair_step, stars_smaller}
use Rattle.acs_lint.proofs.mask_covering.mask_covers.Goals as goal

pub walk-smaller-in-Stars : goal.walk-smaller-in-Stars
walk-smaller-in-Stars c = stars_smaller c.walk.invariant c.in-Stars.ensures

pub walk-preserved-in-Stars : goal.walk-preserved-in-Stars
walk-preserved-in-Stars c = stars_step c.walk.invariant c.in-Stars.ensures

pub walk-preserved-in-Pair : goal.walk-preserved-in-Pair
walk-preserved-in-Pair c = pair_step c.walk.invariant c.in-Pair.ensures
