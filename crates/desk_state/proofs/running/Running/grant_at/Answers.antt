use Rattle.std.proofs.Common.{◌∙◌, ap, sym, subst}
use Rattle.std.specs.Prelude.{IfSome, option_map}
use Rattle.sms_volumes.specs.Changing.{IsFreeAt}
use Rattle.desk_state.proofs.FewLemmas.{grant-few}
use Rattle.desk_state.proofs.running.Running.grant_at.Goals as goal

pub with_room-requires-clause-few : goal.with_room-requires-clause-few
with_room-requires-clause-few c =
    let some = c.requires.stands in
    let running = c.args.self.now.volumes in
    let pieces = c.in-Some.pieces in
    let free : IsFreeAt running c.args.place pieces.items = subst (λ o. IfSome o (λ p. IsFreeAt running c.args.place p.items)) c.in-Some.is c.plan.ensures.free in
    grant-few some.state running c.args.place free.volume c.args.asked.now c.args.held pieces.items some.lawful some.stands.volumes c.requires.asked c.requires.held free.at
    (sym (c.plan.ensures.rule some.state free.volume some.lawful some.stands.volumes free.at) ∙ ap (option_map (λ p. p.items)) c.in-Some.is)
