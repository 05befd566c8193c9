use Rattle.std.proofs.lemmas.Result.{IfOk-weaker}
use Rattle.store_calls.proofs.listing.found_text.Goals as goal

pub returns-in-Classes : goal.returns-in-Classes
returns-in-Classes c = IfOk-weaker c.list_classes.result _ _ (λ text e. rw c.in-Classes.is e) c.list_classes.ensures
