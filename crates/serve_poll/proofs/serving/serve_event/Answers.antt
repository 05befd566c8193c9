-- One event.
use Rattle.std.proofs.Common.{refl, arith}
use Rattle.serve_poll.proofs.ServingLaws.{keeps_still, loop_end}
use Rattle.serve_poll.proofs.serving.serve_event.Goals as goal

pub returns-in-Some-clause-asked : goal.returns-in-Some-clause-asked
returns-in-Some-clause-asked g c = record {
  made = 1;
  within = omega arith;
  calls = c.meet.ensures.calls;
  why = loop_end 1 1 _ (g.P.Readiness.seen c.args.poller.now) (g.P.Readiness.seen c.args.poller.now) (g.P.Readiness.seen c.meet.new.poller) c.in-Some.end (omega arith) c.in-Some.ensures.why;
}

pub returns-in-None-clause-asked : goal.returns-in-None-clause-asked
returns-in-None-clause-asked g c = record { made = 1; within = omega arith; calls = c.meet.ensures.calls; why = refl }

pub returns-then-hall-clause-stands : goal.returns-then-hall-clause-stands
returns-then-hall-clause-stands g c = keeps_still _ _ _ _ _ _ _
