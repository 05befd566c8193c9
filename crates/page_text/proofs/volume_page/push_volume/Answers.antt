-- The two parts are the whole.
use Rattle.std.proofs.Common.{◌++◌, ◌∙◌, ap, append_assoc}
use Rattle.page_text.specs.Inner.Pieces.{volume_front, volume_rest}
use Rattle.page_text.proofs.PieceLemmas.{volume_is}
use Rattle.page_text.proofs.volume_page.push_volume.Goals as goal

pub returns : goal.returns
returns c =
    let it = c.args.row.now in
    let old = c.args.text.now.items in
    c.in_ok-push_rest.ensures ∙ ap (λ l. l ++ volume_rest it) c.in_ok-push_front.ensures ∙ append_assoc old (volume_front it) (volume_rest it) ∙ ap (λ l. old ++ l) (volume_is it)
