-- The two parts are the whole.
use Rattle.std.proofs.Common.{◌++◌, ◌∙◌, ap, append_assoc}
use Rattle.store_report.specs.Inner.Pieces.{extent_front, extent_rest}
use Rattle.store_report.proofs.ExtentLemmas.{extent_is}
use Rattle.store_report.proofs.extents_json.push_extent.Goals as goal

pub returns : goal.returns
returns c =
    let it = c.args.row.now in
    let old = c.args.text.now.items in
    c.in_ok-push_rest.ensures ∙ ap (λ l. l ++ extent_rest it) c.in_ok-push_front.ensures ∙ append_assoc old (extent_front it) (extent_rest it) ∙ ap (λ l. old ++ l) (extent_is it)
