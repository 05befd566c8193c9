use Rattle.acs_test.proofs.SameLemmas.{ends_decide, values_differ}
use Rattle.acs_test.proofs.outcome.is_same_end.Goals as goal

pub returns-then-are_same_values : goal.returns-then-are_same_values
returns-then-are_same_values c = ends_decide c.args.one.now c.args.other.now c.is_same_stop.result (c.are_same_values.ensures.0 c.if-are_same_values.true) c.is_same_stop.ensures

pub returns-else-are_same_values : goal.returns-else-are_same_values
returns-else-are_same_values c = (
  λ t. absurd (cc t),
  λ e. absurd (values_differ c.args.one.now c.args.other.now c.are_same_values.result c.are_same_values.ensures c.if-are_same_values.false e),
)
