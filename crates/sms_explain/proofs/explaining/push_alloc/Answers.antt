use Rattle.std.proofs.Common.{◌++◌, List, ap, ◌∙◌}
use Rattle.std.specs.Prelude.{flat_map}
use Rattle.sms_explain.proofs.ExplanationLemmas.{told_parts}
use Rattle.sms_explain.specs.RunText.{run_text}
use Rattle.sms_story.specs.declared.run.Run.{Run}
use Rattle.sms_explain.proofs.explaining.push_alloc.Goals as goal

pub returns : goal.returns
returns c =
    let story = c.in_ok-story.story in
    told_parts c.args.config.now c.args.sources.now c.args.item.now c.args.allocation.now c.args.text.now.items
    c.push_head.new.text.items c.push_runs.new.text.items c.push_end.new.text.items c.push_written.new.text.items
    story.runs story.classified.values story.classified.stop story.trace
    c.in_ok-push_head.ensures
    (c.in_ok-push_runs.ensures ∙ ap (λ (runs : List Run). c.push_head.new.text.items ++ flat_map (run_text c.args.sources.now) runs) c.as_slice.ensures)
    c.in_ok-push_end.ensures c.in_ok-push_written.ensures
    c.in_ok-story.ensures.runs c.in_ok-story.ensures.values c.in_ok-story.ensures.stop c.in_ok-story.ensures.trace
