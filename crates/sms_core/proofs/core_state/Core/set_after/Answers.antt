use Rattle.std.proofs.Common.{◌∙◌, ap, subst, sym}
use Rattle.std.specs.Option.{option_copied}
use Rattle.desk_state.proofs.NextLemmas.{next-set}
use Rattle.desk_state.specs.Following.{IsNextSet}
use Rattle.sms_core.proofs.CoreLemmas.{held-stands}
use Rattle.sms_core.proofs.core_state.Core.set_after.Goals as goal

pub returns-in-Some : goal.returns-in-Some
returns-in-Some g c = rw (← c.self.view_is, c.get.ensures) (λ s reaches.
    subst (IsNextSet (option_copied c.args.dsn) s.sets) (sym c.next.ensures.next ∙ ap option_copied c.in-Some.is)
    (next-set (option_copied c.args.dsn) c.self.inside.running.catalog.sets s.sets c.next.ensures.sorted (held-stands _ _ _ _ _ _ _ s c.self.invariant.held reaches).sets))

pub returns-in-None : goal.returns-in-None
returns-in-None g c = rw (← c.self.view_is) (λ s reaches.
    subst (IsNextSet (option_copied c.args.dsn) s.sets) (sym c.next.ensures.next ∙ ap option_copied c.in-None.is)
    (next-set (option_copied c.args.dsn) c.self.inside.running.catalog.sets s.sets c.next.ensures.sorted (held-stands _ _ _ _ _ _ _ s c.self.invariant.held reaches).sets))
