-- The two parts are the whole.
use Rattle.std.proofs.Common.{◌++◌, ◌∙◌, ap, append_assoc}
use Rattle.page_text.specs.Inner.Pieces.{set_front, set_rest}
use Rattle.page_text.proofs.PieceLemmas.{set_is}
use Rattle.page_text.proofs.set_page.push_set.Goals as goal

pub returns : goal.returns
returns c =
    let it = c.args.set.now in
    let old = c.args.text.now.items in
    c.in_ok-push_rest.ensures ∙ ap (λ l. l ++ set_rest it) c.in_ok-push_front.ensures ∙ append_assoc old (set_front it) (set_rest it) ∙ ap (λ l. old ++ l) (set_is it)
