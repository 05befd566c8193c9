use Rattle.std.proofs.Common.{◌∙◌, ap}
use Rattle.std.specs.Prelude.{is_some}
use Rattle.ordered_index.proofs.LookupLemmas.{lookup-text}
use Rattle.desk_plan.specs.Plan.{number_in}
use Rattle.desk_plan.proofs.job_numbers.JobNumbers.has.Goals as goal

pub returns : goal.returns
returns c =
    c.is_some.ensures ∙ ap is_some (c.copied.ensures ∙ c.get.ensures ∙ lookup-text c.args.job.now c.self.inside.numbers.rows)
    ∙ ap (λ n. is_some (number_in n c.args.job.now)) c.self.view_is
