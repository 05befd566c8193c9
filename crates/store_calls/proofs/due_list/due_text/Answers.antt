use Rattle.std.proofs.Common.{◌∙◌, ap}
use Rattle.std.specs.Prelude.{flat_map}
use Rattle.std.proofs.lemmas.Result.{IfOk-weaker}
use Rattle.store_calls.specs.StoreDue.{due_line}
use Rattle.store_calls.proofs.due_list.due_text.Goals as goal

pub returns-in-Some : goal.returns-in-Some
returns-in-Some c =
    IfOk-weaker c.due_under.result _ _ (λ text e. rw c.in-Some.is (e ∙ ap (flat_map (due_line c.in-Some.config c.args.day)) c.as_slice.ensures)) c.due_under.ensures

pub returns-in-None : goal.returns-in-None
returns-in-None c = rw c.in-None.is c.new.ensures.items
