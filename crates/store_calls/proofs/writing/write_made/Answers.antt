use Rattle.std.proofs.Common.{refl}
use Rattle.store_calls.proofs.writing.write_made.Goals as goal

pub returns-in-Ok-clause-wanting : goal.returns-in-Ok-clause-wanting
returns-in-Ok-clause-wanting g c = rw c.in-Ok.is tt

pub returns-in-Ok-clause-ends : goal.returns-in-Ok-clause-ends
returns-in-Ok-clause-ends g c = λ whole is. let same = rw c.in-Ok.is at is in rw (c.deref.ensures.value, same) at c.write_bytes.ensures.ends

pub returns-in-Err-clause-wanting : goal.returns-in-Err-clause-wanting
returns-in-Err-clause-wanting g c = rw c.in-Err.is refl

pub returns-in-Err-clause-ends : goal.returns-in-Err-clause-ends
returns-in-Err-clause-ends g c = λ whole is. refl
