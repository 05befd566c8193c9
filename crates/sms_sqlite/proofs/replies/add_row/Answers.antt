use Rattle.std.proofs.Common.{ap, pos, ◌∙◌}
use Rattle.sms_sqlite.proofs.NumberLemmas.{column_is, word_low}
use Rattle.sms_sqlite.proofs.TablesLemmas.{makes_like}
use Rattle.sms_sqlite.proofs.WriteLemmas.{adds_reply}
use Rattle.sms_sqlite.proofs.replies.add_row.Goals as goal

pub returns-clause-leads : goal.returns-clause-leads
returns-clause-leads g c clean inside rows holds =
    makes_like _ _ _ rows _ (c.in_ok-add_reply.ensures.made clean inside holds.ready) holds
    (adds_reply c.args.change.now c.bytes.result.now _ _ c.deref.result.now c.deref-2.result.now
    c.bytes.ensures.bytes (column_is c.in_column-number.result _ (c.in_column-number.ensures ∙ ap pos c.get.ensures.value) (word_low _ c.get.ensures.range.1))
    (column_is c.in-Some.place _ c.in-Some.ensures.0 c.in-Some.ensures.1) c.bytes.ensures.form c.get.ensures.range
    (c.deref.ensures.value ∙ c.in_ok-request.ensures.written) c.in_ok-request.ensures.readable (c.deref-2.ensures.value ∙ c.in_ok-reply.ensures.written) c.in_ok-reply.ensures.readable _ rows)
