use Rattle.std.proofs.Common.{◌∙◌}
use Rattle.sms_manage.proofs.SoFarLemmas.{begun-none, begun-under, err-then, on-err}
use Rattle.sms_manage.proofs.day.run_day_from.Goals as goal

pub returns-in_err-config-clause-begun : goal.returns-in_err-config-clause-begun
returns-in_err-config-clause-begun g c = on-err c.from_residual.result _ (begun-none c.args.first c.args.core.now.opening c.args.day c.args.core.now.journal)

pub returns-in-Some-clause-begun : goal.returns-in-Some-clause-begun
returns-in-Some-clause-begun g c =
    err-then c.act_all.result (begun-under _ _ _ _ _ _ (λ before reaches. rw c.get.ensures (c.in_ok-config.ensures before reaches ∙ c.in-Some.is))) c.act_all.ensures.begun
