use Rattle.std.proofs.Common.{◌++◌, [], ◌∷◌, ap, ◌∙◌}
use Rattle.acs_tree.specs.declared.kind.Kind.{Kind}
use Rattle.sms_story.proofs.RunLemmas.{ran, run_of}
use Rattle.sms_story.proofs.routine.run_checked.Goals as goal

pub returns : goal.returns
returns c =
    let before = c.args.values.now in
    let after = c.follow.new.values in
    let events = c.in_ok-trace.trace.events in
    let ending = c.in_ok-trace.trace.ending in
    ran c.args.checked.now c.args.input.now before after c.args.runs.now c.push.new.self events ending c.in_ok-trace.ensures.means c.in_ok-trace.ensures.tells c.in_ok-trace.ensures.same
    (c.in_ok-push.ensures.ok ∙ ap (λ (k : Kind). c.args.runs.now ++ run_of k before events after ending ∷ []) c.kind.ensures)
