use Rattle.std.proofs.lemmas.Result.{IfOk-weaker}
use Rattle.sms_open.proofs.ReopeningLemmas.{opened-first}
use Rattle.sms_open.proofs.reopening.reopen.Goals as goal

pub returns-clause-opened : goal.returns-clause-opened
returns-clause-opened g c = IfOk-weaker c.reopen_behind.result _ _ (λ core is. opened-first _ core.opening is) c.reopen_behind.ensures.opened
