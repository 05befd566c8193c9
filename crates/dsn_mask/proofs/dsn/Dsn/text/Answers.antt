use Rattle.dsn_mask.proofs.ShortBytes.{name_is_short}
use Rattle.dsn_mask.proofs.dsn.Dsn.text.Goals as goal

pub invariant_of-result : goal.invariant_of-result
invariant_of-result c = (c.self.invariant.0, name_is_short _ c.self.invariant)
