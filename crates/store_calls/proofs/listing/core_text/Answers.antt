use Rattle.std.proofs.lemmas.Result.{IfOk-weaker}
use Rattle.store_calls.proofs.listing.core_text.Goals as goal

pub returns-in-Groups : goal.returns-in-Groups
returns-in-Groups c = IfOk-weaker c.list_groups.result _ _ (λ text e. rw c.in-Groups.is e) c.list_groups.ensures

pub returns-in-Volumes : goal.returns-in-Volumes
returns-in-Volumes c = IfOk-weaker c.list_volumes.result _ _ (λ text e. rw c.in-Volumes.is e) c.list_volumes.ensures
