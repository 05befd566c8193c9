use Rattle.dsn_mask.proofs.Split.{qualifiers_of-some}
use Rattle.dsn_mask.proofs.mask_walk.front.Goals as goal

pub returns-in-Some-value : goal.returns-in-Some-value
returns-in-Some-value c = rw (c.in-None.is, c.in-Some-value.is) (qualifiers_of-some c.in-Some-value.field-0.now)
