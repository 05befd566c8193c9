use Rattle.std.proofs.Common.{refl}
use Rattle.smsd.proofs.checking.check_source.Goals as goal

pub returns-in-Ok-clause-unopened : goal.returns-in-Ok-clause-unopened
returns-in-Ok-clause-unopened g c = rw c.in-Ok.is tt

-- the number is that of the status with which the deck was checked, and of whether it would be active
pub returns-in-Ok-clause-checked : goal.returns-in-Ok-clause-checked
returns-in-Ok-clause-checked g c = rw c.in-Ok.is (c.check_deck-keeper.ensures.status, c.check_deck-keeper.ensures.good, c.check_deck-keeper.ensures.code_is)

pub returns-in-Err-clause-unopened : goal.returns-in-Err-clause-unopened
returns-in-Err-clause-unopened g c = rw c.in-Err.is refl

pub returns-in-Err-clause-checked : goal.returns-in-Err-clause-checked
returns-in-Err-clause-checked g c = rw c.in-Err.is tt
