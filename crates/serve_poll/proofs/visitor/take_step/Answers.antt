-- One step.
use Rattle.std.proofs.Common.{refl}
use Rattle.serve_poll.proofs.VisitorLaws.{advances_join}
use Rattle.serve_poll.proofs.visitor.take_step.Goals as goal

pub returns-clause-advances : goal.returns-clause-advances
returns-clause-advances g c = advances_join _ _ _ _ _ _ _ _ (record { number = refl; hears = c.go_on.ensures.hears _ }) c.call.ensures.advances
