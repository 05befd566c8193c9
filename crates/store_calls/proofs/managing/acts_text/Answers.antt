use Rattle.std.proofs.lemmas.Result.{IfOk-weaker}
use Rattle.store_calls.proofs.managing.acts_text.Goals as goal

pub returns-in-Ok : goal.returns-in-Ok
returns-in-Ok c = IfOk-weaker c.text_of_acts.result _ _ (λ text e. rw c.in-Ok.is e) c.text_of_acts.ensures
