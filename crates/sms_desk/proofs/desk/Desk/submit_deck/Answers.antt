use Rattle.std.proofs.Common.{◌≡◌, sym, subst, ◌∙◌}
use Rattle.sms_construct.specs.declared.request.Op.TheVariants as ops
use Rattle.sms_desk.specs.Holding.{IsOwnOf}
use Rattle.sms_desk.proofs.desk.Desk.submit_deck.Goals as goal

pub submit_with-requires-clause-own : goal.submit_with-requires-clause-own
submit_with-requires-clause-own g c deck is =
    let both : ops.Activate c.args.deck.now ≡ ops.Activate deck = sym c.requires.deck ∙ is in
    let same : c.args.deck.now ≡ deck = cc in
    subst (λ d. IsOwnOf d c.in-Ok.field-0.own) same c.in-Ok.ensures.own
