use Rattle.std.proofs.Common.{append-nil, sym}
use Rattle.std.proofs.lemmas.Result.{IfOk-weaker}
use Rattle.store_calls.proofs.due_list.push_wanted.Goals as goal

-- where nothing is due no line is put
pub returns-in-Nothing : goal.returns-in-Nothing
returns-in-Nothing c = rw c.in-Nothing.is (sym (append-nil c.args.text.now.items))

pub returns-in-Delete : goal.returns-in-Delete
returns-in-Delete c = IfOk-weaker c.push_named.result _ _ (λ u e. rw c.in-Delete.is e) c.push_named.ensures

pub returns-in-Release : goal.returns-in-Release
returns-in-Release c = IfOk-weaker c.push_named-in-Release.result _ _ (λ u e. rw c.in-Release.is e) c.push_named-in-Release.ensures
