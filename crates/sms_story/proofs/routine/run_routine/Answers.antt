use Rattle.std.proofs.lemmas.Result.{IfOk-weaker}
use Rattle.sms_construct.specs.Configuration.{routine_of}
use Rattle.sms_story.proofs.RunLemmas.{found_runs}
use Rattle.sms_story.proofs.routine.run_routine.Goals as goal

pub returns-in-Some : goal.returns-in-Some
returns-in-Some c =
    let found = routine_of c.args.kind c.args.config.now.routines in
    IfOk-weaker c.run_checked.result _ _ (λ ending runs.
    found_runs c.in-Some.checked.now found c.args.kind c.args.input.now c.args.values.now c.run_checked.new.values c.args.runs.now c.run_checked.new.runs ending
    (rw c.in-Some.is at c.source.ensures) (c.deck-deck.ensures.form.kinds c.args.kind) runs) c.run_checked.ensures
