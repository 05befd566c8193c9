-- One call.
use Rattle.std.proofs.Common.{refl}
use Rattle.serve_poll.proofs.VisitorLaws.{hears_sent, advances_still}
use Rattle.serve_poll.proofs.visitor.call.Goals as goal

pub returns-then-not-is_empty-clause-advances : goal.returns-then-not-is_empty-clause-advances
returns-then-not-is_empty-clause-advances g c = record { number = refl; hears = hears_sent _ _ _ _ _ c.args.visitor.now.conversation c.send.new.conversation (c.send.ensures.sends _) }

pub returns-in-Closed-clause-advances : goal.returns-in-Closed-clause-advances
returns-in-Closed-clause-advances g c = advances_still _ _ _ _
