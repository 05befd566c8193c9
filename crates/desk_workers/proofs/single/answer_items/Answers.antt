use Rattle.std.proofs.Common.{◌≡◌, ◌<◌, length, length-append, add-one, arith, refl, ap, subst, ◌∙◌, rules}
use Rattle.desk_workers.specs.Phases.{HasSteps}
use Rattle.desk_workers.proofs.PhaseLemmas.{steps-none, steps-phase, steps-push}
use Rattle.desk_workers.proofs.single.answer_items.Goals as goal

pub loop-item-init : goal.loop-item-init
loop-item-init g c = (steps-none c.args.items.now c.args.answers.now.items c.args.core.now.journal, (refl, (refl, refl)))

-- there is room for the next answer
pub push_reserved-requires : goal.push_reserved-requires
push_reserved-requires g c =
    let before = c.loop-item.invariant in
    let grown = ap length before.0.behind ∙ length-append c.args.answers.now.items before.0.answers in
    omega (arith, grown, before.0.counted, c.loop-item.answers.ok.0, c.args.answers.now.ok.0, c.requires.room, before.1.0, c.loop-item-test.true)

-- the next item is answered
pub loop-item-preserved : goal.loop-item-preserved
loop-item-preserved g c =
    let before = c.loop-item.invariant in
    let less : c.loop-item.item-index < length c.args.items.now = omega (arith, c.loop-item-test.true) in (
      rw add-one (steps-push c.args.items.now c.loop-item.item-index c.args.answers.now.items c.loop-item.answers.items c.push_reserved.new.self.items c.args.core.now.journal c.loop-item.core.journal c.step-answer.new.self.journal
          c.item-item.result c.step-answer.result _ _ _ _ _ before.0 less c.item-item.is c.step-answer.ensures.enters c.push_reserved.ensures.items),
      (c.push_reserved.ensures.capacity ∙ before.1.0, (c.step-answer.ensures.opening ∙ before.1.1.0, c.step-answer.ensures.mark ∙ before.1.1.1)),
    )

pub returns-clause-answered : goal.returns-clause-answered
returns-clause-answered g c =
    let all : c.loop-item.item-index ≡ length c.args.items.now = search rules in
    steps-phase c.args.items.now c.args.answers.now.items c.loop-item.answers.items c.args.core.now.journal c.loop-item.core.journal
    (subst (λ i. HasSteps c.args.items.now i c.args.answers.now.items c.loop-item.answers.items c.args.core.now.journal c.loop-item.core.journal) all c.loop-item.invariant.0)
