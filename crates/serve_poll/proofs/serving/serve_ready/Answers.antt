-- A connection that is ready.
use Rattle.std.proofs.Common.{◌∙◌, sym, refl, ap}
use Rattle.serve_poll.specs.declared.visitor.Visitor.{Visitor}
use Rattle.serve_poll.proofs.HallLaws.{put_back, leave}
use Rattle.serve_poll.proofs.ServingLaws.{stays_keeps, stays_none, watched_out, watched_back, ready}
use Rattle.serve_poll.proofs.serving.serve_ready.Goals as goal

pub returns-in_default-clause-stands : goal.returns-in_default-clause-stands
returns-in_default-clause-stands g c = λ away.
    stays_keeps _ _ _ _ _ _ _ _ _ _ (stays_none _ _ _ _ c.args.hall.now _ (rw c.in_default.is at c.try_remove.ensures.absent))

pub returns-in_default-clause-watched : goal.returns-in_default-clause-watched
returns-in_default-clause-watched g c = λ h.
    watched_out g.P.Conn.Wire.seen (g.P.Readiness.seen c.args.poller.now).awaited (g.P.Readiness.seen c.args.poller.now).awaited c.args.hall.now.seats _ c.args.key (λ other told. told) h c.try_remove.ensures.updates

pub returns-in-Some-last_step-clause-stands : goal.returns-in-Some-last_step-clause-stands
returns-in-Some-last_step-clause-stands g c = λ away.
    let v = c.advance-step.new.visitor in
    let left = c.in-Some-last_step.field-0 in
    let w : Visitor g.row.P-Conn.Denot = record { number = v.number; conn = c.last_step.new.conn; conversation = v.conversation } in
    ready _ _ _ _ _ _ _ _ _ c.args.hall.now _ _ c.args.key c.in-Some.visitor v w
    (record { came = c.done.ensures.came ∙ c.last_step.ensures.came; idle = c.done.ensures.idle ∙ c.last_step.ensures.idle }) (sym c.try_remove.ensures.value ∙ c.in-Some.is) c.try_remove.ensures.updates c.in-Some.ensures.len c.try_remove.ensures.capacity c.advance-step.ensures.advances refl refl c.last_step.ensures.conn (c.last_step.ensures.vain v.conversation c.advance-step.ensures.step)
    (λ all first before out watched quiet. leave _ _ first _ all before _ _ _ _ _ c.args.key w left out
    (rw c.done.ensures.idle (c.in-Some-last_step.ensures.why v.conversation c.advance-step.ensures.step))
    (rw c.last_step.ensures.back at c.done.ensures.back))

pub returns-in-None-clause-stands : goal.returns-in-None-clause-stands
returns-in-None-clause-stands g c = λ away.
    let v = c.advance-step.new.visitor in
    let w : Visitor g.row.P-Conn.Denot = record { number = v.number; conn = c.last_step.new.conn; conversation = v.conversation } in
    ready _ _ _ _ _ _ _ _ _ c.args.hall.now _ _ c.args.key c.in-Some.visitor v w
    (record { came = c.last_step.ensures.came; idle = c.last_step.ensures.idle }) (sym c.try_remove.ensures.value ∙ c.in-Some.is) c.try_remove.ensures.updates c.in-Some.ensures.len c.try_remove.ensures.capacity c.advance-step.ensures.advances refl refl c.last_step.ensures.conn (c.last_step.ensures.vain v.conversation c.advance-step.ensures.step)
    (λ all first before out watched quiet.
    let same = c.in-None.ensures.key watched in
    rw c.last_step.ensures.back (put_back _ _ first _ all before _ _ _ _ _ c.args.key w out (same.key ∙ watched) (rw same.since quiet) (rw (c.insert_reserved.ensures.key ∙ c.in-Some.ensures.key_is_next) at c.insert_reserved.ensures.updates) c.insert_reserved.ensures.len c.insert_reserved.ensures.capacity))

pub returns-in-Some-last_step-clause-watched : goal.returns-in-Some-last_step-clause-watched
returns-in-Some-last_step-clause-watched g c = λ h.
    watched_out g.P.Conn.Wire.seen _ _ c.args.hall.now.seats _ c.args.key (λ other told. c.done.ensures.awaited other (c.last_step.ensures.awaited other told)) h c.try_remove.ensures.updates

pub returns-in-None-clause-watched : goal.returns-in-None-clause-watched
returns-in-None-clause-watched g c = λ h.
    let v = c.advance-step.new.visitor in
    let w : Visitor g.row.P-Conn.Denot = record { number = v.number; conn = c.last_step.new.conn; conversation = v.conversation } in
    watched_back g.P.Conn.Wire.seen _ _ c.args.hall.now.seats _ _ c.args.key w c.last_step.ensures.awaited h c.try_remove.ensures.updates
    (rw (c.insert_reserved.ensures.key ∙ c.in-Some.ensures.key_is_next) at c.insert_reserved.ensures.updates)
    (c.in-None.ensures.turn v.conversation c.advance-step.ensures.step)
