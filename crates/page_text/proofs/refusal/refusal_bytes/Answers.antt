-- The two parts are the whole.
use Rattle.std.proofs.Common.{◌++◌, ◌∙◌, ap}
use Rattle.page_text.specs.Inner.Pieces.{refusal_line, refusal_rest}
use Rattle.page_text.specs.RefusalText.{sentence_of}
use Rattle.page_text.specs.PageBodies.{error_body}
use Rattle.page_text.proofs.PieceLemmas.{refusal_is}
use Rattle.page_text.proofs.refusal.refusal_bytes.Goals as goal

pub returns : goal.returns
returns c =
    let body = error_body (sentence_of c.args.status) in
    let rest = rw (c.as_slice.ensures ∙ c.in_ok-body.ensures ∙ ap error_body c.sentence_of.ensures) at c.in_ok-push_rest.ensures in
    rest ∙ ap (λ l. l ++ refusal_rest body) (c.in_ok-push_line.ensures ∙ ap (λ l. l ++ refusal_line c.args.status) c.new-text.ensures.items) ∙ refusal_is c.args.status body
