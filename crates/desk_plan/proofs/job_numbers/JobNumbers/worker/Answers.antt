use Rattle.std.proofs.Common.{◌≡◌, ◌∙◌, ap}
use Rattle.std.specs.Prelude.{None, Some}
use Rattle.ordered_index.proofs.LookupLemmas.{lookup-text}
use Rattle.desk_plan.specs.Plan.{number_in, worker_at}
use Rattle.desk_plan.proofs.job_numbers.JobNumbers.worker.Goals as goal

pub returns-in-Some-clause-value : goal.returns-in-Some-clause-value
returns-in-Some-clause-value c =
    let found : Some c.in-Some.number.now ≡ number_in c.args.self.now c.args.job.now = c.in-Some.ensures ∙ lookup-text c.args.job.now c.self.inside.numbers.rows ∙ ap (λ n. number_in n c.args.job.now) c.self.view_is in
    ap (worker_at c.args.workers) found

pub returns-in-None-clause-value : goal.returns-in-None-clause-value
returns-in-None-clause-value c =
    let found : None ≡ number_in c.args.self.now c.args.job.now = c.in-None.ensures ∙ lookup-text c.args.job.now c.self.inside.numbers.rows ∙ ap (λ n. number_in n c.args.job.now) c.self.view_is in
    ap (worker_at c.args.workers) found
