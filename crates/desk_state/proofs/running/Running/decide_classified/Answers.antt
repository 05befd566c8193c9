use Rattle.std.proofs.Common.{◌≡◌, ◌∙◌, refl, sym, ap, subst}
use Rattle.std.specs.Prelude.{Some}
use Rattle.desk_law.specs.Allocation.{GrantRule, Wish, space_of}
use Rattle.desk_law.specs.Lawful.{IsLawful}
use Rattle.desk_law.specs.State.{DeskState}
use Rattle.desk_state.specs.Answering.{Answers}
use Rattle.desk_state.specs.Standing.{IsRunning}
use Rattle.desk_state.specs.Inner.Wishing.{ClassifiedRule, classes_with}
use Rattle.desk_state.specs.declared.decision.Decision.{Decision}
use Rattle.desk_state.proofs.AllocationLemmas.{is-done, spaced-answers, stopped-answers}
use Rattle.desk_state.proofs.OkLemmas.{on-ok}
use Rattle.desk_state.proofs.running.Running.decide_classified.Goals as goal

pub returns-in-Err-clause-answers : goal.returns-in-Err-clause-answers
returns-in-Err-clause-answers c = λ s lawful is.
    let values = c.args.classified.now.values in
    let stop = c.args.classified.now.stop in
    subst (Answers s c.args.self.now (ClassifiedRule s c.args.config.now c.args.alloc.now (classes_with values stop c.args.trace))) (sym c.quiet.ensures)
    (stopped-answers s c.args.self.now c.args.config.now c.args.alloc.now values stop c.args.trace c.in-Err.reply c.stop_reply.result c.in-Err.is (c.stop_reply.ensures (classes_with values stop c.args.trace) refl))

pub of-requires : goal.of-requires
of-requires c =
    let values = c.args.classified.now.values in
    let stop = c.args.classified.now.stop in
    let done = is-done values stop c.args.trace c.in-Ok.trace c.stop_reply.result c.in-Ok.is (c.stop_reply.ensures (classes_with values stop c.args.trace) refl) in
    c.requires.known done.done

pub returns-in-Some-clause-answers : goal.returns-in-Some-clause-answers
returns-in-Some-clause-answers c =
    let config = c.args.config.now in
    let alloc = c.args.alloc.now in
    let values = c.args.classified.now.values in
    let stop = c.args.classified.now.stop in
    let after = c.decide_wish.new.self in
    let done = is-done values stop c.args.trace c.in-Ok.trace c.stop_reply.result c.in-Ok.is (c.stop_reply.ensures (classes_with values stop c.args.trace) refl) in
    let there = sym (ap (space_of alloc) c.data_class_of.ensures) ∙ (sym c.space_of.ensures ∙ c.in-Some.is) in
    on-ok
    (λ (made : Decision). (s : DeskState) → IsLawful s → IsRunning s c.args.self.now → s.active ≡ Some c.of.result.config → Answers s after (GrantRule s alloc c.of.result) made)
    (λ (made : Decision). (s : DeskState) → IsLawful s → IsRunning s c.args.self.now → Answers s after (ClassifiedRule s config alloc (classes_with values stop c.args.trace)) made)
    c.decide_wish.result
    (λ made next. λ s lawful is.
    let active : s.active ≡ Some c.of.result.config = sym is.active ∙ (c.requires.active ∙ ap (λ (w : Wish). Some w.config) (sym c.of.ensures)) in
    spaced-answers s after config alloc values stop c.args.trace c.in-Ok.trace c.in-Some.space made done there
    (subst (λ (w : Wish). Answers s after (GrantRule s alloc w) made) c.of.ensures (next s lawful is active)))
    c.decide_wish.ensures.answers
