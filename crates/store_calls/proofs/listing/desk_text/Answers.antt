use Rattle.std.proofs.Common.{◌∙◌, ap, sym}
use Rattle.std.proofs.lemmas.Result.{IfOk-weaker}
use Rattle.desk_law.specs.Extents.{extents_of}
use Rattle.desk_law.specs.State.{Opening}
use Rattle.store_calls.specs.StoreLists.{IsListed}
use Rattle.store_calls.proofs.listing.desk_text.Goals as goal

pub core_text-requires-clause-extents : goal.core_text-requires-clause-extents
core_text-requires-clause-extents c =
    c.deref.ensures.value ∙ c.in_ok-extents.ensures ∙ ap extents_of c.as_slice.ensures ∙ ap (λ (o : Opening). extents_of o.rows.sets) (sym c.in_ok-core.ensures.opening)

pub returns : goal.returns
returns c = IfOk-weaker c.core_text.result _ _ (λ text e. rw c.in_ok-core.ensures.opening at e) c.core_text.ensures
