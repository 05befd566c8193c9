use Rattle.std.proofs.Common.{◌≡◌, ◌∙◌, false, ap, sym, subst, arith}
use Rattle.std.specs.Prelude.{◌==◌, Option, Some, IfSome}
use Rattle.std.proofs.lemmas.Bool.Decides.{nat_tests}
use Rattle.sms_construct.specs.declared.reply.Reply.TheVariants as replies
use Rattle.desk_law.specs.Extension.{ExtendRule, extended}
use Rattle.desk_law.specs.Lawful.{IsLawful}
use Rattle.desk_law.specs.State.{DeskState}
use Rattle.desk_state.specs.Answering.{Answers}
use Rattle.desk_state.specs.Catalog.{set_in}
use Rattle.desk_state.specs.Inner.Granting.{IsGranted}
use Rattle.desk_state.specs.Inner.Growing.{Grows, added_of}
use Rattle.desk_state.specs.Standing.{IsRunning}
use Rattle.desk_state.specs.declared.decision.Decision.{Decision}
use Rattle.desk_state.specs.declared.deed.Deed.TheVariants as deeds
use Rattle.desk_state.specs.declared.grant.Grant.{Grant}
use Rattle.desk_state.proofs.ExtensionLemmas.{extend-grown, extend-ungrown}
use Rattle.desk_state.proofs.OkLemmas.{on-ok}
use Rattle.desk_state.proofs.running.Running.decide_extend.Goals as goal

pub returns-in-Some-2-clause-answers : goal.returns-in-Some-2-clause-answers
returns-in-Some-2-clause-answers c =
    let set = c.get-set.result.now in
    let grant = c.in-Some-2.grant in
    let after = c.more_for.new.self in
    let there : set_in c.args.dsn.now c.args.self.now.catalog.sets ≡ Some set = sym c.in_ok-set.ensures.found ∙ (c.in-Some.is ∙ ap Some (sym c.get-set.ensures)) in
    let some : (set.secondary == 0) ≡ false = grind (arith, nat_tests) in
    let granted : IsGranted after grant = subst (λ (o : Option Grant). IfSome o (IsGranted after)) c.in-Some-2.is c.in_ok-grant.ensures.ready in
    on-ok
    (λ (made : Decision). made ≡ record { reply = replies.Extended (added_of grant); deed = deeds.Get (extended set (added_of grant)) grant.place grant.pieces })
    (λ (made : Decision). (s : DeskState) → IsLawful s → IsRunning s c.args.self.now → Answers s after (ExtendRule s c.args.dsn.now) made)
    c.extended.result
    (λ made e. λ s lawful is.
    subst (Answers s after (ExtendRule s c.args.dsn.now)) (sym e)
    (extend-grown s after c.args.dsn.now set grant (sym (is.sets c.args.dsn.now) ∙ there) some granted
    (subst (Grows s set) c.in-Some-2.is (c.in_ok-grant.ensures.grows s lawful is))))
    c.extended.ensures

pub returns-clause-answers : goal.returns-clause-answers
returns-clause-answers c = λ s lawful is.
    let set = c.get-set.result.now in
    let after = c.more_for.new.self in
    let there : set_in c.args.dsn.now c.args.self.now.catalog.sets ≡ Some set = sym c.in_ok-set.ensures.found ∙ (c.in-Some.is ∙ ap Some (sym c.get-set.ensures)) in
    let some : (set.secondary == 0) ≡ false = grind (arith, nat_tests) in
    subst (Answers s after (ExtendRule s c.args.dsn.now)) (sym c.quiet-in-None.ensures)
    (extend-ungrown s after c.args.dsn.now set (sym (is.sets c.args.dsn.now) ∙ there) some
    (subst (Grows s set) c.in-None.is (c.in_ok-grant.ensures.grows s lawful is)))
