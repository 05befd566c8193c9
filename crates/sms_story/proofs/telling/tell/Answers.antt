use Rattle.std.proofs.Common.{◌∙◌, ap, sym, List}
use Rattle.acs_tree.specs.Inputs.{input_under}
use Rattle.desk_law.specs.Classification.{begin}
use Rattle.sms_story.proofs.EndLemmas.{classes_values}
use Rattle.sms_story.specs.Runs.{values_behind}
use Rattle.sms_story.specs.declared.run.Run.{Run}
use Rattle.sms_story.proofs.telling.tell.Goals as goal

pub returns-clause-ends : goal.returns-clause-ends
returns-clause-ends c =
    let config = c.args.config.now in
    let alloc = c.args.allocation.now in
    ap (λ (runs : List Run). values_behind (begin alloc).values runs) c.in_ok-runs.ensures
    ∙ sym (classes_values c.tells_the_truth.ensures.routine config (input_under alloc.input c.args.job.now config.system config.sysplex) (begin alloc))
