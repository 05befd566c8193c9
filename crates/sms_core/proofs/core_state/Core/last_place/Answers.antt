use Rattle.std.proofs.Common.{◌≡◌, ◌+◌, length, arith, ◌∙◌}
use Rattle.sms_core.proofs.core_state.Core.last_place.Goals as goal

pub returns : goal.returns
returns g c =
    let length_is : c.len.result ≡ length c.self.inside.journal.items = c.len.ensures ∙ c.self.inside.journal.ok.0 in
    rw (← c.self.view_is) (omega (arith, c.self.invariant.base_is, length_is))
