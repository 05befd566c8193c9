use Rattle.std.proofs.Common.{◌∙◌, ap}
use Rattle.sms_keeper.specs.Log.{LogView, kept_in}
use Rattle.sms_keeper.proofs.KeyLemmas.{lookup-key}
use Rattle.sms_keeper.proofs.request_log.RequestLog.kept.Goals as goal

pub returns : goal.returns
returns c = c.get.ensures ∙ lookup-key c.args.key.now c.self.inside.kept.rows ∙ ap (λ (v : LogView). kept_in c.args.key.now v.kept) c.self.view_is
