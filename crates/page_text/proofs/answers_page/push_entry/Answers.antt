-- The two parts are the whole.
use Rattle.std.proofs.Common.{◌++◌, ◌∙◌, ap, append_assoc}
use Rattle.page_text.specs.Inner.AnswerPieces.{entry_front, entry_rest}
use Rattle.page_text.proofs.AnswerLemmas.{entry_is}
use Rattle.page_text.proofs.answers_page.push_entry.Goals as goal

pub returns : goal.returns
returns c =
    let it = c.args.entry.now in
    let old = c.args.text.now.items in
    c.in_ok-push_rest.ensures ∙ ap (λ l. l ++ entry_rest it) c.in_ok-push_front.ensures ∙ append_assoc old (entry_front it) (entry_rest it) ∙ ap (λ l. old ++ l) (entry_is it)
