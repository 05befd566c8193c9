use Rattle.std.proofs.Common.{◌≡◌, ◌<◌, length, take, add-one, arith, refl, ap, ◌∙◌}
use Rattle.sms_script.specs.Script.{items_of}
use Rattle.sms_core.proofs.ToldLemmas.{told_self, told_then}
use Rattle.desk_calls.specs.Run.{AnswersFront}
use Rattle.desk_calls.proofs.RunLemmas.{items_up_to, order-none, phase-answered, phase-room}
use Rattle.desk_calls.proofs.script_run.answer_phases.Goals as goal

pub loop-phase-init : goal.loop-phase-init
loop-phase-init g c = (rw c.requires.none (order-none c.args.core.now.journal), (refl, (refl, (refl, told_self (g.P.Keeper.told c.args.core.now.keeper)))))

-- there is room for the answers of the next phase
pub answer_items-requires : goal.answer_items-requires
answer_items-requires g c =
    let before = c.loop-phase.invariant in
    let phases = c.args.phases.now in
    let i = c.loop-phase.phase-index in
    let less : i < length phases = omega (arith, c.loop-phase-test.true) in
    let same : length c.as_slice.result.now ≡ length c.phase-item.result = ap length c.as_slice.ensures in
    omega (arith, same, phase-room phases i c.phase-item.result less c.phase-item.is, before.0.each, c.loop-phase.answers.ok.0, before.1.0, c.requires.room)

-- the next phase is answered
pub loop-phase-preserved : goal.loop-phase-preserved
loop-phase-preserved g c =
    let before = c.loop-phase.invariant in
    let phases = c.args.phases.now in
    let i = c.loop-phase.phase-index in
    let phase = c.phase-item.result in
    let less : i < length phases = omega (arith, c.loop-phase-test.true) in
    let more : AnswersFront phase (length phase) c.loop-phase.answers.items c.answer_items.new.answers.items c.loop-phase.core.journal c.answer_items.new.core.journal = rw c.as_slice.ensures at c.answer_items.ensures.answered in (
      rw (add-one, items_up_to phases i phase less c.phase-item.is)
          (phase-answered (items_of (take i phases)) phase c.loop-phase.answers.items c.answer_items.new.answers.items c.args.core.now.journal c.loop-phase.core.journal c.answer_items.new.core.journal before.0 more),
      (c.answer_items.ensures.capacity ∙ before.1.0, (c.answer_items.ensures.opening ∙ before.1.1.0, (c.answer_items.ensures.mark ∙ before.1.1.1.0, told_then _ _ _ before.1.1.1.1 c.answer_items.ensures.told))),
    )
