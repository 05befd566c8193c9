-- What was sent.
use Rattle.std.proofs.Common.{ap, inr}
use Rattle.ready_wires.specs.declared.marks.Marks.{Marks}
use Rattle.serve_poll.proofs.VisitorLaws.{sends_some, wrote_moved, some_bytes}
use Rattle.serve_poll.proofs.visitor.send.Goals as goal

pub returns-in-Ok-Some-clause-sends : goal.returns-in-Ok-Some-clause-sends
returns-in-Ok-Some-clause-sends g c terms = sends_some terms _ _ c.args.conversation.now _ c.in-Ok-Some.count c.in-Ok-Some.ensures.came (rw c.due.ensures at (rw c.in-Ok-Some.field-0-is at c.in-Ok-Some.ensures.taken)) c.in-Ok-Some.ensures.watch c.sent.ensures

pub returns-in-Ok-Some-clause-step : goal.returns-in-Ok-Some-clause-step
returns-in-Ok-Some-clause-step g c =
    let some = rw c.due.ensures at (rw c.in-Ok-Some.field-0-is at c.in-Ok-Some.ensures.some) in
    wrote_moved (g.C.Wire.seen c.args.conn.now).marks _ _ c.in-Ok-Some.count c.in-Ok-Some.field-0-is c.in-Ok-Some.ensures.marks (some (some_bytes c.args.conversation.now.due c.requires))

pub returns-in-Ok-None-clause-step : goal.returns-in-Ok-None-clause-step
returns-in-Ok-None-clause-step g c =
    let marks = rw c.in-Ok-None.field-0-is at c.in-Ok-None.ensures.marks in
    (inr (c.requires, ap (λ (m : Marks). m.write_waits) marks), ap (λ (m : Marks). m.tried) marks)

pub returns-in-Err-clause-step : goal.returns-in-Err-clause-step
returns-in-Err-clause-step g c = ap (λ (m : Marks). m.failed) c.in-Err.ensures.marks
