use Rattle.std.proofs.Common.{◌<◌, ◌∙◌, All, refl, subst, sym}
use Rattle.desk_plan.specs.Plan.{number_in, worker_in}
use Rattle.desk_plan.proofs.FrontLemmas.{worker-below}
use Rattle.desk_workers.proofs.SharedLemmas.{plan-below, planned-by}
use Rattle.desk_workers.proofs.sharing.plan_phase.Goals as goal

-- each item's worker is one of so many
pub rank-requires : goal.rank-requires
rank-requires g c =
    let numbers = c.args.crew.now.numbers.now in
    let workers = c.args.crew.now.workers in
    subst (All (λ k. k < workers)) (sym (c.deref.ensures.value ∙ c.in_ok-plan.ensures.plan))
    (plan-below (worker_in numbers workers) workers workers c.args.items.now (λ job. worker-below workers (number_in numbers job) c.requires.workers.0) refl)

pub returns : goal.returns
returns g c =
    planned-by c.rank.result (λ r. r.0.items) (λ r. r.1) c.args.crew.now.numbers.now c.args.crew.now.workers c.args.items.now c.deref.result.now
    c.requires.workers.0 c.requires.workers.1 (c.deref.ensures.value ∙ c.in_ok-plan.ensures.plan) c.rank.ensures.plan c.rank.ensures.count
