use Rattle.std.proofs.Common.{◌<◌, length, arith, refl, ◌∙◌}
use Rattle.sms_core.proofs.ToldLemmas.{told_self, told_then}
use Rattle.desk_calls.proofs.RunLemmas.{front-length, front-none, front-push}
use Rattle.desk_calls.proofs.script_run.answer_items.Goals as goal

pub loop-item-init : goal.loop-item-init
loop-item-init g c = (front-none c.args.items.now c.args.answers.now.items c.args.core.now.journal, (refl, (refl, (refl, told_self (g.P.Keeper.told c.args.core.now.keeper)))))

-- there is room for the next answer
pub push_reserved-requires : goal.push_reserved-requires
push_reserved-requires g c =
    let before = c.loop-item.invariant in
    omega (arith, front-length _ _ _ _ _ _ before.0, c.loop-item.answers.ok.0, c.args.answers.now.ok.0, c.requires.room, before.1.0, c.loop-item-test.true)

-- the next item is answered
pub loop-item-preserved : goal.loop-item-preserved
loop-item-preserved g c =
    let before = c.loop-item.invariant in
    let less : c.loop-item.item-index < length c.args.items.now = omega (arith, c.loop-item-test.true) in (
      front-push c.args.items.now c.loop-item.item-index c.args.answers.now.items c.loop-item.answers.items c.push_reserved.new.self.items c.args.core.now.journal c.loop-item.core.journal c.step-answer.new.self.journal
          c.item-item.result c.step-answer.result _ _ _ _ _ before.0 less c.item-item.is c.step-answer.ensures.enters c.push_reserved.ensures.items,
      (c.push_reserved.ensures.capacity ∙ before.1.0, (c.step-answer.ensures.opening ∙ before.1.1.0, (c.step-answer.ensures.mark ∙ before.1.1.1.0, told_then _ _ _ before.1.1.1.1 c.step-answer.ensures.told))),
    )
