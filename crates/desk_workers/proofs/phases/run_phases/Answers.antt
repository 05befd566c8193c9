use Rattle.std.proofs.Common.{◌≡◌, true, false, add-one, ◌∙◌, rules}
use Rattle.std.specs.Prelude.{is_err}
use Rattle.desk_workers.specs.Phases.{HasPhase}
use Rattle.desk_workers.proofs.PhaseLemmas.{front-answered, phases-push}
use Rattle.desk_workers.proofs.SharedLemmas.{not-err, was-err}
use Rattle.desk_workers.proofs.phases.run_phases.Goals as goal

-- one more phase is answered
pub loop-phase-preserved : goal.loop-phase-preserved
loop-phase-preserved g c =
    let before = c.loop-phase.invariant in
    let phase = c.phase-item.result in
    let fine : is_err c.run_phase-done.result.0 ≡ false = search rules in
    let ok : HasPhase c.as_slice.result.now c.loop-phase.answers.items c.run_phase-done.new.answers.items c.loop-phase.core.journal c.run_phase-done.result.1.journal = not-err c.run_phase-done.result.0 _ fine c.run_phase-done.ensures.answered in
    let has : HasPhase phase c.loop-phase.answers.items c.run_phase-done.new.answers.items c.loop-phase.core.journal c.run_phase-done.result.1.journal = rw c.as_slice.ensures at ok in (
      rw add-one (phases-push c.args.phases.now c.loop-phase.phase-index phase c.loop-phase.answers.items c.run_phase-done.new.answers.items c.args.core.journal c.loop-phase.core.journal c.run_phase-done.result.1.journal c.loop-phase-test.true c.phase-item.is before.0 has),
      (c.run_phase-done.ensures.opening ∙ before.1.0, c.run_phase-done.ensures.mark ∙ before.1.1),
    )

-- the phases before it are answered, and nothing of it
pub returns-then-is_err-clause-wanting : goal.returns-then-is_err-clause-wanting
returns-then-is_err-clause-wanting g c =
    let before = c.loop-phase.invariant in
    let failed : is_err c.run_phase-done.result.0 ≡ true = search rules in
    let left : (c.run_phase-done.new.answers.items ≡ c.loop-phase.answers.items) × (c.run_phase-done.result.1.journal ≡ c.loop-phase.core.journal) = was-err c.run_phase-done.result.0 _ failed c.run_phase-done.ensures.wanting in
    front-answered c.args.phases.now c.loop-phase.phase-index c.loop-phase.answers.items c.args.core.journal c.loop-phase.core.journal c.run_phase-done.result.1.journal before.0 left.1
