use Rattle.std.proofs.Common.{sym, ◌∙◌}
use Rattle.sms_core.proofs.CoreLemmas.{held-stands}
use Rattle.sms_core.proofs.WorkLemmas.{held-active}
use Rattle.sms_core.proofs.core_state.Core.active.Goals as goal

pub returns-in-Some-clause-was : goal.returns-in-Some-clause-was
returns-in-Some-clause-was g c = rw (← c.self.view_is) (held-active _ _ c.self.inside.running _ _ _ _ c.in-Some.config c.self.invariant.held c.in-Some.is)

pub returns-in-Some-clause-now : goal.returns-in-Some-clause-now
returns-in-Some-clause-now g c = rw (← c.self.view_is) (λ s reaches.
    let stands = held-stands _ _ _ _ _ _ _ s c.self.invariant.held reaches in
    (stands.activations, sym stands.active ∙ c.in-Some.is))

pub returns-in-None-clause-now : goal.returns-in-None-clause-now
returns-in-None-clause-now g c = rw (← c.self.view_is) (λ s reaches. sym (held-stands _ _ _ _ _ _ _ s c.self.invariant.held reaches).active ∙ c.in-None.is)
