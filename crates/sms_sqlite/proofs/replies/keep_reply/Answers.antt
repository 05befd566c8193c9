use Rattle.std.proofs.Common.{arith, ap, pos, ◌∙◌, subst, sym}
use Rattle.std.proofs.lemmas.Result.{on_ok_weaker}
use Rattle.sqlite.specs.Held.{state}
use Rattle.sqlite.specs.State.{HasCleanDisk}
use Rattle.sms_sqlite.specs.Writing.{Holds}
use Rattle.sms_sqlite.proofs.NumberLemmas.{column_is, word_low}
use Rattle.sms_sqlite.proofs.LeadLemmas.{not_kept, is_kept}
use Rattle.sms_sqlite.proofs.replies.keep_reply.Goals as goal

pub returns-then-branch-clause-leads : goal.returns-then-branch-clause-leads
returns-then-branch-clause-leads g c clean inside rows holds =
    not_kept c.args.change.now _ _ rows c.bytes.result.now _ c.in_ok-has_floor_above.field-0 c.bytes.ensures.bytes (column_is c.in_column-number.result _ (c.in_column-number.ensures ∙ ap pos c.get.ensures.value) (word_low _ c.get.ensures.range.1))
    (c.in_ok-has_floor_above.ensures.answer clean holds.ready) c.if-branch.true (c.in_ok-has_floor_above.ensures.same clean holds.ready) holds

pub returns-clause-leads : goal.returns-clause-leads
returns-clause-leads g c clean inside rows holds =
    let first : HasCleanDisk (state g.S.Store c.has_floor_above.new.tx.conn.now) = omega (arith, clean, c.add_row.ensures.survives.clean) in
    let same = c.in_ok-has_floor_above.ensures.same first holds.ready in
    let on = (c.in_ok-has_floor_above.ensures.stays first inside).inside in
    on_ok_weaker c.add_row.result (is_kept c.args.change.now _ _ _ rows c.bytes.result.now _ c.in_ok-has_floor_above.field-0 c.bytes.ensures.bytes (column_is c.in_column-number.result _ (c.in_column-number.ensures ∙ ap pos c.get.ensures.value) (word_low _ c.get.ensures.range.1))
    (c.in_ok-has_floor_above.ensures.answer first holds.ready) c.if-branch.false holds same)
    (c.add_row.ensures.leads clean on rows (subst (λ db. Holds db rows) (sym same) holds))
