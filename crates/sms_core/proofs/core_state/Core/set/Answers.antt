use Rattle.std.proofs.Common.{◌∙◌}
use Rattle.sms_core.proofs.CoreLemmas.{held-stands}
use Rattle.sms_core.proofs.core_state.Core.set.Goals as goal

pub returns-in-Some : goal.returns-in-Some
returns-in-Some g c = rw (← c.self.view_is, c.get-in-Some.ensures) (λ s reaches.
    c.in-Some.ensures ∙ (held-stands _ _ _ _ _ _ _ s c.self.invariant.held reaches).sets c.args.dsn.now)

pub returns-in-None : goal.returns-in-None
returns-in-None g c = rw (← c.self.view_is) (λ s reaches. c.in-None.ensures ∙ (held-stands _ _ _ _ _ _ _ s c.self.invariant.held reaches).sets c.args.dsn.now)
