use Rattle.std.proofs.Common.{◌∙◌}
use Rattle.std.specs.Option.{option_copied}
use Rattle.desk_state.proofs.WorkLemmas.{classified-active}
use Rattle.desk_state.proofs.running.Running.decide_alloc.Goals as goal

pub decide_unused-requires-clause-before : goal.decide_unused-requires-clause-before
decide_unused-requires-clause-before c =
    classified-active c.args.self.now c.args.job.now c.args.alloc.now c.args.slate.now (option_copied c.args.before) c.in-Some.config c.get-2.result.now c.requires.before c.in-Some.is (c.get-2.ensures ∙ c.in_ok-config.ensures)
