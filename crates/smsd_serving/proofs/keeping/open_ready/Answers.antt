-- The store was made ready before.
use Rattle.std.proofs.Common.{refl}
use Rattle.std.proofs.lemmas.Result.{IfErr-weaker, IfOk-weaker}
use Rattle.smsd_serving.proofs.KeepingLaws.{opened_behind, unopened_behind, unopened_unready}
use Rattle.smsd_serving.proofs.keeping.open_ready.Goals as goal

pub returns-in-Ok-clause-start : goal.returns-in-Ok-clause-start
returns-in-Ok-clause-start g c =
    IfOk-weaker c.open_clerk.result _ _ (λ clerk h. opened_behind _ _ _ _ _ clerk.start c.in-Ok.ensures.kept (c.in-Ok.ensures.stands (λ e. cc)) h) c.open_clerk.ensures.start

pub returns-in-Ok-clause-unopened : goal.returns-in-Ok-clause-unopened
returns-in-Ok-clause-unopened g c =
    IfErr-weaker c.open_clerk.result _ _ (λ back h. unopened_behind _ _ _ _ _ _ _ c.in-Ok.ensures.kept (c.in-Ok.ensures.stands (λ e. cc)) h) c.open_clerk.ensures.unopened

pub returns-in-Err-Failed-clause-unopened : goal.returns-in-Err-Failed-clause-unopened
returns-in-Err-Failed-clause-unopened g c = unopened_unready _ _ g.P.Stored.damage _ _ c.in-Err-Failed.ensures.kept (c.in-Err-Failed.ensures.cause (rw c.in-Err-Failed.field-0-is refl))
