use Rattle.std.proofs.Common.{refl}
use Rattle.smsd.proofs.managing.manage_opened.Goals as goal

pub returns-in-Ok-clause-unopened : goal.returns-in-Ok-clause-unopened
returns-in-Ok-clause-unopened g c = rw c.in-Ok.is tt

-- the number is that of the status with which it was done
pub returns-in-Ok-clause-ran : goal.returns-in-Ok-clause-ran
returns-in-Ok-clause-ran g c = rw c.in-Ok.is (c.manage_store-keeper.ensures.status, c.manage_store-keeper.ensures.code_is)

pub returns-in-Err-clause-unopened : goal.returns-in-Err-clause-unopened
returns-in-Err-clause-unopened g c = rw c.in-Err.is refl

pub returns-in-Err-clause-ran : goal.returns-in-Err-clause-ran
returns-in-Err-clause-ran g c = rw c.in-Err.is tt
