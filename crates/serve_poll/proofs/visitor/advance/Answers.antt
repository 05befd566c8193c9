-- One step after the other.
use Rattle.std.proofs.Common.{◌∙◌, sym}
use Rattle.serve_poll.proofs.VisitorLaws.{advances_still, advances_join}
use Rattle.serve_poll.proofs.visitor.advance.Goals as goal

pub loop-init : goal.loop-init
loop-init g c = record { advances = advances_still _ _ _ _; room = c.requires }

pub returns-then-ne-clause-advances : goal.returns-then-ne-clause-advances
returns-then-ne-clause-advances g c = advances_join _ _ _ _ _ _ _ _ c.loop.invariant.advances c.take_step-step.ensures.advances

pub returns-then-not-has_room-clause-advances : goal.returns-then-not-has_room-clause-advances
returns-then-not-has_room-clause-advances g c = advances_join _ _ _ _ _ _ _ _ c.loop.invariant.advances c.take_step-step.ensures.advances

pub loop-preserved : goal.loop-preserved
loop-preserved g c = record {
  advances = advances_join _ _ _ _ _ _ _ _ c.loop.invariant.advances c.take_step-step.ensures.advances;
  room = sym c.has_room.ensures ∙ c.if-not-has_room.false;
}

pub returns-clause-advances : goal.returns-clause-advances
returns-clause-advances g c = advances_join _ _ _ _ _ _ _ _ c.loop.invariant.advances c.take_step.ensures.advances
