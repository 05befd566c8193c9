use Rattle.std.proofs.Common.{inr, refl}
use Rattle.desk_state.proofs.using.or_no_memory.Goals as goal

pub returns-in-Ok : goal.returns-in-Ok
returns-in-Ok c = λ deck is. record { ok = rw c.in-Ok.is at is; err = tt }

pub returns-in-Err : goal.returns-in-Err
returns-in-Err c = λ deck is. record { ok = tt; err = inr refl }
