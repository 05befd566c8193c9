-- What was heard.
use Rattle.std.proofs.Common.{ap, inl, arith, length, length-take}
use Rattle.ready_wires.specs.declared.marks.Marks.{Marks}
use Rattle.serve_poll.proofs.VisitorLaws.{hears_some, hears_none, read_moved, read_ended}
use Rattle.serve_poll.proofs.visitor.hear.Goals as goal

pub returns-then-count-eq0-clause-hears : goal.returns-then-count-eq0-clause-hears
returns-then-count-eq0-clause-hears g c = hears_none _ _ _ _ _ c.args.conversation.now c.in-Ok-Some.ensures.taken (rw c.if-count-eq0.true at (rw c.in-Ok-Some.field-0-is at c.in-Ok-Some.ensures.came)) c.in-Ok-Some.ensures.watch

pub returns-else-count-eq0-clause-hears : goal.returns-else-count-eq0-clause-hears
returns-else-count-eq0-clause-hears g c = hears_some _ _ _ _ _ _ c.args.conversation.now _ _ c.in-Ok-Some.ensures.taken (rw c.in-Ok-Some.field-0-is at c.in-Ok-Some.ensures.came) c.in-Ok-Some.ensures.watch c.requires.sent (λ b. omega (arith, b.waiting c.requires.waits, length-take c.in-Ok-Some.count c.read.new.buf)) c.receive.ensures

pub returns-in-Ok-None-clause-hears : goal.returns-in-Ok-None-clause-hears
returns-in-Ok-None-clause-hears g c = hears_none _ _ _ _ _ c.args.conversation.now c.in-Ok-None.ensures.taken (rw c.in-Ok-None.field-0-is at c.in-Ok-None.ensures.came) c.in-Ok-None.ensures.watch

pub returns-in-Err-clause-hears : goal.returns-in-Err-clause-hears
returns-in-Err-clause-hears g c = hears_none _ _ _ _ _ c.args.conversation.now c.in-Err.ensures.taken c.in-Err.ensures.came c.in-Err.ensures.watch

pub returns-then-count-eq0-clause-step : goal.returns-then-count-eq0-clause-step
returns-then-count-eq0-clause-step g c =
    (c.requires.sent, c.requires.waits, read_ended (g.C.Wire.seen c.args.conn.now).marks _ (length c.read.new.buf) _ c.in-Ok-Some.count c.in-Ok-Some.field-0-is c.in-Ok-Some.ensures.marks c.if-count-eq0.true (omega arith))

pub returns-else-count-eq0-clause-step : goal.returns-else-count-eq0-clause-step
returns-else-count-eq0-clause-step g c = read_moved (g.C.Wire.seen c.args.conn.now).marks _ (length c.read.new.buf) _ c.in-Ok-Some.count c.in-Ok-Some.field-0-is c.in-Ok-Some.ensures.marks c.if-count-eq0.false

pub returns-in-Ok-None-clause-step : goal.returns-in-Ok-None-clause-step
returns-in-Ok-None-clause-step g c =
    let marks = rw c.in-Ok-None.field-0-is at c.in-Ok-None.ensures.marks in
    (inl (c.requires.sent, c.requires.waits, ap (λ (m : Marks). m.read_waits) marks), ap (λ (m : Marks). m.tried) marks)

pub returns-in-Err-clause-step : goal.returns-in-Err-clause-step
returns-in-Err-clause-step g c = ap (λ (m : Marks). m.failed) c.in-Err.ensures.marks
