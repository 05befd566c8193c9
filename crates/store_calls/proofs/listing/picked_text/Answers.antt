use Rattle.std.proofs.Common.{◌∙◌, ap}
use Rattle.std.specs.Prelude.{flat_map}
use Rattle.std.proofs.lemmas.Result.{IfOk-weaker}
use Rattle.store_report.specs.Selecting.{extents_on}
use Rattle.store_report.specs.Texts.{extents_text, sets_text}
use Rattle.store_calls.proofs.listing.picked_text.Goals as goal

pub returns-in-Sets : goal.returns-in-Sets
returns-in-Sets c = IfOk-weaker c.sets_text.result _ _ (λ text e o is. rw c.in-Sets.is (e ∙ ap (sets_text c.args.query.now.format) is)) c.sets_text.ensures

pub returns-in_ok-rows-in-Extents : goal.returns-in_ok-rows-in-Extents
returns-in_ok-rows-in-Extents c =
    IfOk-weaker c.extents_text.result _ _
    (λ text e o is. rw c.in-Extents.is (e ∙ ap (extents_text c.args.query.now.format) (c.deref.ensures.value ∙ c.in_ok-rows-in-Extents.ensures ∙ ap (flat_map (extents_on c.args.query.now.selection.volume)) is)))
    c.extents_text.ensures
