-- The clerk's one entry, and what is put behind what is due.
use Rattle.std.proofs.Common.{refl, inl, inr}
use Rattle.http_flow.proofs.answering.answer_one.Goals as goal

pub returns-in_default : goal.returns-in_default
returns-in_default g c =
    let held = rw c.in_default.is at c.handle.follows.holds-at-none in
    (inl held.0, g.met.C.Pages.begun_stays _ _ held.1, refl)

pub returns-in-Ok-push_answer : goal.returns-in-Ok-push_answer
returns-in-Ok-push_answer g c =
    let held = rw c.in-Ok.is at c.handle.follows.holds-at-none in
    (c.in-Ok.answer.now, held.0, g.met.C.Pages.begun_stays _ _ held.1, c.in-Ok-push_answer.ensures.ok)

pub returns-in-Err : goal.returns-in-Err
returns-in-Err g c =
    let held = rw c.in-Ok.is at c.handle.follows.holds-at-none in
    (inr (c.in-Ok.answer.now, held.0), g.met.C.Pages.begun_stays _ _ held.1, c.in-Err.ensures.err)
