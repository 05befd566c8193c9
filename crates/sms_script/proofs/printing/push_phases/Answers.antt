use Rattle.std.proofs.Common.{◌≡◌, ◌+◌, ◌++◌, length, drop, arith, length-append, ap, ◌∙◌, rules}
use Rattle.sms_script.specs.AnswerText.{items_text}
use Rattle.sms_script.specs.Script.{items_of}
use Rattle.sms_script.proofs.PhaseTextLemmas.{next_phase, text_goes_on}
use Rattle.sms_script.proofs.printing.push_phases.Goals as goal

-- the next phase has its text
pub loop-phase-preserved : goal.loop-phase-preserved
loop-phase-preserved c =
    let phases = c.args.phases.now in
    let i = c.loop-phase.phase-index in
    let phase = c.phase-item.result in
    let next : items_of (drop i phases) ≡ phase ++ items_of (drop (i + 1) phases) = next_phase phases i phase (omega (arith, c.loop-phase-test.true)) c.phase-item.is in
    let each = c.loop-phase.invariant.each ∙ ap length next in
    let front : length c.split_at.result.0.now ≡ length phase = c.split_at.ensures.front_len ∙ c.len.ensures in
    let grown : c.push_items.new.text.items ≡ c.loop-phase.text.items ++ items_text phase c.split_at.result.0.now = search rules in
    record {
      text = text_goes_on _ _ _ phase (items_of (drop (i + 1) phases)) c.loop-phase.rest.now c.split_at.result.0.now c.split_at.result.1.now c.split_at.ensures.by_index.0 front
          grown (rw next at c.loop-phase.invariant.text);
      each = omega (arith, each, length-append phase (items_of (drop (i + 1) phases)), c.split_at.ensures.back_len, c.len.ensures);
    }
