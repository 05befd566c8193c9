use Rattle.dsn_mask.proofs.Split.{qualifiers_of-some}
use Rattle.acs_lint.proofs.mask_covering.front.Goals as goal

pub returns-in-Some-other : goal.returns-in-Some-other
returns-in-Some-other c = rw (c.in-None.is, c.in-Some-other.is) (qualifiers_of-some c.in-Some-other.field-0.now)
