use Rattle.std.proofs.Common.{inl, refl}
use Rattle.store_calls.proofs.managing.day_text.Goals as goal

pub resume_day-requires : goal.resume_day-requires
resume_day-requires g c = record { sound = c.requires.sound; loaded = c.requires.loaded; free = c.in-Ok.ensures }

-- nothing was done
pub returns-in-Err-clause-left : goal.returns-in-Err-clause-left
returns-in-Err-clause-left g c = inl refl
