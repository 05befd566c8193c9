use Rattle.std.proofs.Common.{◌≡◌, ◌∙◌, sym, ap, subst}
use Rattle.std.specs.Prelude.{Option, None, Some, IfSome}
use Rattle.sms_construct.specs.declared.reply.Reply.TheVariants as replies
use Rattle.sms_construct.specs.declared.trace.Trace.{Trace}
use Rattle.desk_law.specs.Allocation.{GrantRule}
use Rattle.desk_law.specs.Classification.{trace_of}
use Rattle.desk_law.specs.Lawful.{IsLawful}
use Rattle.desk_law.specs.State.{DeskState}
use Rattle.desk_state.specs.Answering.{Answers}
use Rattle.desk_state.specs.Inner.Granting.{IsGranted}
use Rattle.desk_state.specs.Standing.{IsRunning}
use Rattle.desk_state.specs.Inner.Wishing.{set_granted}
use Rattle.desk_state.specs.declared.decision.Decision.{Decision}
use Rattle.desk_state.specs.declared.deed.Deed.TheVariants as deeds
use Rattle.desk_state.specs.declared.grant.Grant.{Grant}
use Rattle.desk_state.proofs.AllocationLemmas.{granted-answers, listed-among, ungranted-answers}
use Rattle.desk_state.proofs.OkLemmas.{on-ok}
use Rattle.desk_state.proofs.running.Running.decide_wish.Goals as goal

pub returns-in-Some-clause-answers : goal.returns-in-Some-clause-answers
returns-in-Some-clause-answers c =
    let alloc = c.args.alloc.now in
    let wish = c.args.wish in
    let grant = c.in-Some.grant in
    let after = c.grant_among.new.self in
    let granted : IsGranted after grant = subst (λ (o : Option Grant). IfSome o (IsGranted after)) c.in-Some.is c.in_ok-grant.ensures.ready in
    on-ok
    (λ (made : Decision). made ≡ record { reply = replies.Granted (set_granted alloc wish grant) (trace_of wish.classes); deed = deeds.Get (set_granted alloc wish grant) grant.place grant.pieces })
    (λ (made : Decision). (s : DeskState) → IsLawful s → IsRunning s c.args.self.now → s.active ≡ Some wish.config → Answers s after (GrantRule s alloc wish) made)
    c.granted.result
    (λ made e. λ s lawful is active.
    subst (Answers s after (GrantRule s alloc wish)) (sym e)
    (granted-answers s after alloc wish grant (sym (is.sets alloc.input.dsn) ∙ c.requires.unused) granted
    (listed-among s wish c.groups.result.now _ (Some grant) active c.groups.ensures c.asked.ensures.value c.in-Some.is (c.in_ok-grant.ensures.chosen s lawful is))))
    c.granted.ensures

pub returns-in-None-clause-answers : goal.returns-in-None-clause-answers
returns-in-None-clause-answers c = λ s lawful is active.
    let wish = c.args.wish in
    let after = c.grant_among.new.self in
    let rejected = listed-among s wish c.groups.result.now _ None active c.groups.ensures c.asked.ensures.value c.in-None.is (c.in_ok-grant.ensures.chosen s lawful is) in
    subst (Answers s after (GrantRule s c.args.alloc.now wish)) (sym (c.quiet.ensures ∙ ap (λ (t : Trace). record { reply = replies.NoVolume t; deed = deeds.Nothing }) c.into_trace.ensures))
    (ungranted-answers s after c.args.alloc.now wish rejected)
