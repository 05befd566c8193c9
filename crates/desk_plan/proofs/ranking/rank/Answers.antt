use Rattle.std.proofs.Common.{◌∙◌, ap, arith, get_or, length, map}
use Rattle.desk_plan.proofs.RankLemmas.{ranks-long, ranks-mapped}
use Rattle.desk_plan.proofs.ranking.rank.Goals as goal

-- each worker has a rank
pub by_ranks-requires : goal.by_ranks-requires
by_ranks-requires c = λ k d less.
    omega (arith, c.requires k d less, ap length (c.deref.ensures.value ∙ c.in_ok-ranks.ensures.ranks), ranks-long c.args.plan.now c.args.workers)

pub returns-clause-plan : goal.returns-clause-plan
returns-clause-plan c =
    let plan = c.args.plan.now in
    c.in_ok-by_ranks.ensures ∙ ap (λ rs. map (λ worker. get_or rs worker 0) plan) (c.deref.ensures.value ∙ c.in_ok-ranks.ensures.ranks)
    ∙ ranks-mapped plan plan c.args.workers c.requires
