use Rattle.std.proofs.Common.{◌∙◌, ap, map}
use Rattle.std.specs.Prelude.{filter}
use Rattle.std.proofs.lemmas.Result.{IfOk-weaker}
use Rattle.desk_restoring.specs.Opened.{opening_of}
use Rattle.store_report.specs.Selecting.{fits_set}
use Rattle.store_calls.proofs.listing.rows_text.Goals as goal

pub returns : goal.returns
returns c =
    IfOk-weaker c.picked_text.result _ _
    (λ text h. h (opening_of c.args.found.now.rows c.args.found.now.config) (ap (map (λ set. set.now)) c.deref.ensures.value ∙ c.in_ok-sets.ensures ∙ ap (filter (fits_set c.args.query.now.selection)) c.as_slice.ensures))
    c.picked_text.ensures
