-- What one event does.
use Rattle.serve_poll.proofs.ServingLaws.{watched_more, watched_but, keeps_still, keeps_event, keeps_told}
use Rattle.serve_poll.proofs.serving.meet.Goals as goal

pub admit-requires-clause-came : goal.admit-requires-clause-came
admit-requires-clause-came g c = (rw c.in-Ok-Came.field-0-is at c.in-Ok-Came.ensures.fresh).0

pub admit-requires-clause-taken : goal.admit-requires-clause-taken
admit-requires-clause-taken g c = (rw c.in-Ok-Came.field-0-is at c.in-Ok-Came.ensures.fresh).1

pub admit-requires-clause-watch : goal.admit-requires-clause-watch
admit-requires-clause-watch g c = (rw c.in-Ok-Came.field-0-is at c.in-Ok-Came.ensures.fresh).3

pub returns-in-Ok-Came-clause-stands : goal.returns-in-Ok-Came-clause-stands
returns-in-Ok-Came-clause-stands g c = keeps_told _ _ _ _ _ _ _ _ _ _ _ c.in-Ok-Came.ensures.back
    (c.admit.ensures.stands _ _ (record { came = rw c.in-Ok-Came.field-0-is at c.in-Ok-Came.ensures.came; idle = rw c.in-Ok-Came.field-0-is at c.in-Ok-Came.ensures.idle }))

pub returns-in-Ok-Ready-clause-stands : goal.returns-in-Ok-Ready-clause-stands
returns-in-Ok-Ready-clause-stands g c = keeps_event _ _ _ _ _ _ _ _ _ _ _ _ _
    (record { came = rw c.in-Ok-Ready.field-0-is at c.in-Ok-Ready.ensures.came; idle = rw c.in-Ok-Ready.field-0-is at c.in-Ok-Ready.ensures.idle }) c.in-Ok-Ready.ensures.back
    (c.serve_ready.ensures.stands _)

pub returns-in-Ok-Idle-clause-stands : goal.returns-in-Ok-Idle-clause-stands
returns-in-Ok-Idle-clause-stands g c = keeps_told _ _ _ _ _ _ _ _ _ _ _ c.in-Ok-Idle.ensures.back
    (c.dismiss.ensures.stands _ _ (record { came = rw c.in-Ok-Idle.field-0-is at c.in-Ok-Idle.ensures.came; idle = rw c.in-Ok-Idle.field-0-is at c.in-Ok-Idle.ensures.idle }))

pub returns-in-Ok-Quiet-clause-stands : goal.returns-in-Ok-Quiet-clause-stands
returns-in-Ok-Quiet-clause-stands g c = keeps_event _ _ _ _ _ _ _ _ _ _ _ _ _
    (record { came = rw c.in-Ok-Quiet.field-0-is at c.in-Ok-Quiet.ensures.came; idle = rw c.in-Ok-Quiet.field-0-is at c.in-Ok-Quiet.ensures.idle }) c.in-Ok-Quiet.ensures.back
    (keeps_still _ _ _ _ _ _ _)

pub returns-in-Ok-Ended-clause-stands : goal.returns-in-Ok-Ended-clause-stands
returns-in-Ok-Ended-clause-stands g c = keeps_event _ _ _ _ _ _ _ _ _ _ _ _ _
    (record { came = rw c.in-Ok-Ended.field-0-is at c.in-Ok-Ended.ensures.came; idle = rw c.in-Ok-Ended.field-0-is at c.in-Ok-Ended.ensures.idle }) c.in-Ok-Ended.ensures.back
    (keeps_still _ _ _ _ _ _ _)

pub returns-in-Err-clause-stands : goal.returns-in-Err-clause-stands
returns-in-Err-clause-stands g c = keeps_event _ _ _ _ _ _ _ _ _ _ _ _ _
    (record { came = c.in-Err.ensures.came; idle = c.in-Err.ensures.idle }) c.in-Err.ensures.back
    (keeps_still _ _ _ _ _ _ _)

pub returns-in-Ok-Came-clause-watched : goal.returns-in-Ok-Came-clause-watched
returns-in-Ok-Came-clause-watched g c = λ h. c.admit.ensures.watched (watched_more g.P.Conn.Wire.seen _ _ c.args.hall.now.seats (rw c.in-Ok-Came.field-0-is at c.in-Ok-Came.ensures.awaited) h)

pub returns-in-Ok-Ready-clause-watched : goal.returns-in-Ok-Ready-clause-watched
returns-in-Ok-Ready-clause-watched g c = λ h. c.serve_ready.ensures.watched (watched_but g.P.Conn.Wire.seen c.in-Ok-Ready.key _ _ c.args.hall.now.seats (rw c.in-Ok-Ready.field-0-is at c.in-Ok-Ready.ensures.awaited) h)

pub returns-in-Ok-Idle-clause-watched : goal.returns-in-Ok-Idle-clause-watched
returns-in-Ok-Idle-clause-watched g c = λ h. c.dismiss.ensures.watched (watched_more g.P.Conn.Wire.seen _ _ c.args.hall.now.seats (rw c.in-Ok-Idle.field-0-is at c.in-Ok-Idle.ensures.awaited) h)

pub returns-in-Ok-Quiet-clause-watched : goal.returns-in-Ok-Quiet-clause-watched
returns-in-Ok-Quiet-clause-watched g c = λ h. watched_more g.P.Conn.Wire.seen _ _ c.args.hall.now.seats (rw c.in-Ok-Quiet.field-0-is at c.in-Ok-Quiet.ensures.awaited) h

pub returns-in-Ok-Ended-clause-watched : goal.returns-in-Ok-Ended-clause-watched
returns-in-Ok-Ended-clause-watched g c = λ h. watched_more g.P.Conn.Wire.seen _ _ c.args.hall.now.seats (rw c.in-Ok-Ended.field-0-is at c.in-Ok-Ended.ensures.awaited) h

pub returns-in-Err-clause-watched : goal.returns-in-Err-clause-watched
returns-in-Err-clause-watched g c = λ h. watched_more g.P.Conn.Wire.seen _ _ c.args.hall.now.seats c.in-Err.ensures.awaited h
