use Rattle.std.proofs.Common.{◌∙◌, ap, inl, refl, sym}
use Rattle.store_calls.proofs.managing.resume_day.Goals as goal

-- the desk goes on from the rows
pub tell_day-requires : goal.tell_day-requires
tell_day-requires g c =
    let core = c.in-Ok.ensures in
    record { journal = core.journal; mark = core.mark ∙ ap (g.P.Keeper.count) (sym core.keeper); free = rw core.opening c.requires.free }

pub returns-in-Ok-clause-told : goal.returns-in-Ok-clause-told
returns-in-Ok-clause-told g c = let core = c.in-Ok.ensures in rw (core.opening, core.keeper) at c.tell_day.ensures.told

pub returns-in-Ok-clause-left : goal.returns-in-Ok-clause-left
returns-in-Ok-clause-left g c = let core = c.in-Ok.ensures in rw (core.opening, core.keeper) at c.tell_day.ensures.left

-- nothing was done
pub returns-in-Err-clause-left : goal.returns-in-Err-clause-left
returns-in-Err-clause-left g c = rw c.in-Err.ensures.err (inl refl)
