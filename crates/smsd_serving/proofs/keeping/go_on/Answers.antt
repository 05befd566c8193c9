-- The same clerk, or one that goes on.
use Rattle.std.proofs.Common.{◌∙◌, inl, inr, refl, sym}
use Rattle.smsd_serving.proofs.keeping.go_on.Goals as goal

pub returns-then-has_room-clause-ok : goal.returns-then-has_room-clause-ok
returns-then-has_room-clause-ok g c = inl refl

pub returns-in-Ok-clause-ok : goal.returns-in-Ok-clause-ok
returns-in-Ok-clause-ok g c =
    let took = c.take_keeper-keeper.ensures in
    inr (record { filled = sym c.has_room.ensures ∙ c.if-has_room.false; left = took.left; opened = rw (took.keeper, took.place) at c.in-Ok.ensures.start; none = c.in-Ok.ensures.talks })

pub returns-in-Err-clause-err : goal.returns-in-Err-clause-err
returns-in-Err-clause-err g c = (c.in-Err.err, refl, rw c.take_keeper-keeper.ensures.keeper at c.in-Err.ensures.unopened)

pub returns-then-has_room-clause-roomy : goal.returns-then-has_room-clause-roomy
returns-then-has_room-clause-roomy g c = sym c.has_room.ensures ∙ c.if-has_room.true
