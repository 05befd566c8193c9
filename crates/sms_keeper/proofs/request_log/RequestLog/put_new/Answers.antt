use Rattle.std.proofs.Common.{◌∙◌, ◌&&◌, Some, ap, cond}
use Rattle.std.specs.Prelude.{is_none}
use Rattle.sms_keeper.specs.Log.{LogView, kept_in, same_key}
use Rattle.sms_keeper.proofs.KeyLemmas.{added-key}
use Rattle.sms_keeper.proofs.request_log.RequestLog.put_new.Goals as goal

pub returns-clause-kept : goal.returns-clause-kept
returns-clause-kept c = λ other.
    added-key c.args.key other c.args.kept c.self.inside.kept.rows c.put_new.new.self.rows (c.put_new.ensures.found other)
    ∙ ap (λ (v : LogView). cond (is_none (kept_in c.args.key v.kept) && same_key c.args.key other) (Some c.args.kept) (kept_in other v.kept)) c.self.view_is
