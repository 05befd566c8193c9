use Rattle.std.proofs.Common.{◌∙◌, ap, subst}
use Rattle.row_store.proofs.HoldLemmas.{awaits_one}
use Rattle.row_store.specs.Contents.{following}
use Rattle.row_store.specs.Holds.{HoldView}
use Rattle.row_store.specs.Inner.Holding.{AwaitsNone, Knows}
use Rattle.row_store.specs.declared.standing.Standing.{Standing}
use Rattle.row_store.proofs.hold.Hold.make.Goals as goal

pub invariant_of-self-in-Unknown : goal.invariant_of-self-in-Unknown
invariant_of-self-in-Unknown g c = λ true.
    let inside = c.self.inside in
    let known : Standing → Type 0 =
    λ s. Knows s inside.guard (g.S.Store.seen inside.store) (g.S.Store.may inside.store) in
    let free : AwaitsNone inside.guard (g.S.Store.seen inside.store) (g.S.Store.may inside.store) =
    subst known (ap (λ (h : HoldView _). h.standing) c.self.view_is ∙ c.requires)
    (c.self.invariant (c.in-Unknown.ensures.truth true)) in
    let sent = c.in-Unknown.ensures.sent true in
    awaits_one _ _ _ _ (record {
      expects = inside.guard;
      next = c.in-Some.next;
      absent = c.args.absent;
      writes = c.args.writes;
    }) free.guard_is
    (record { expects = free.guard_is; next = c.in-Some.ensures ∙ ap following free.guard_is }) sent.0 sent.1
