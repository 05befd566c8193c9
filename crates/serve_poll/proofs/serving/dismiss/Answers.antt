-- A connection that is handed back.
use Rattle.std.proofs.Common.{◌∙◌, sym, refl}
use Rattle.serve_poll.proofs.ServingLaws.{left_seat, idle_none, watched_out}
use Rattle.serve_poll.proofs.serving.dismiss.Goals as goal

pub returns-in-Some-clause-stands : goal.returns-in-Some-clause-stands
returns-in-Some-clause-stands g c = λ house before idle.
    left_seat house _ before _ _ _ _ c.args.hall.now _ c.args.key c.in-Some.visitor idle (record { came = c.done.ensures.came; idle = c.done.ensures.idle }) (sym c.try_remove.ensures.value ∙ c.in-Some.is) c.try_remove.ensures.updates c.in-Some.ensures.len c.try_remove.ensures.capacity refl refl c.done.ensures.back

pub returns-in-Some-clause-watched : goal.returns-in-Some-clause-watched
returns-in-Some-clause-watched g c = λ h.
    watched_out g.P.Conn.Wire.seen _ _ c.args.hall.now.seats _ c.args.key c.done.ensures.awaited (λ other v apart at. h other v at) c.try_remove.ensures.updates

pub returns-in_default-clause-stands : goal.returns-in_default-clause-stands
returns-in_default-clause-stands g c = λ house before idle.
    idle_none house _ c.args.key before _ _ c.args.hall.now _ idle (sym c.try_remove.ensures.value ∙ c.in_default.is) (rw c.in_default.is at c.try_remove.ensures.absent)

pub returns-in_default-clause-watched : goal.returns-in_default-clause-watched
returns-in_default-clause-watched g c = λ h.
    watched_out g.P.Conn.Wire.seen (g.P.Readiness.seen c.args.poller.now).awaited (g.P.Readiness.seen c.args.poller.now).awaited c.args.hall.now.seats _ c.args.key (λ other told. told) (λ other v apart at. h other v at) c.try_remove.ensures.updates
