use Rattle.std.proofs.Common.{◌∙◌, ap}
use Rattle.std.specs.Prelude.{unwrap_or}
use Rattle.ordered_index.proofs.LookupLemmas.{lookup-text}
use Rattle.sms_keeper.specs.Log.{LogView, floor_in}
use Rattle.sms_keeper.proofs.request_log.RequestLog.floor.Goals as goal

pub returns : goal.returns
returns c =
    c.unwrap_or.ensures ∙ ap (λ o. unwrap_or o 0) (c.copied.ensures ∙ c.get.ensures ∙ lookup-text c.args.job.now c.self.inside.floors.rows)
    ∙ ap (λ (v : LogView). floor_in c.args.job.now v.floors) c.self.view_is
