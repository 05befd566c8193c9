use Rattle.std.proofs.Common.{◌∙◌, ap}
use Rattle.sms_keeper.specs.Log.{LogView, kept_in}
use Rattle.sms_keeper.proofs.request_log.RequestLog.reserve.Goals as goal

pub returns-clause-kept : goal.returns-clause-kept
returns-clause-kept c = λ key. ap (kept_in key) c.reserve.ensures.rows ∙ ap (λ (v : LogView). kept_in key v.kept) c.self.view_is
