use Rattle.std.proofs.Common.{◌≡◌, Result, Err, sym, ◌∙◌, subst, rules}
use Rattle.sms_open.specs.declared.rows_err.RowsErr.{RowsErr}
use Rattle.sms_open.specs.Tests.{ArePlaced, AreStatusesOf}
use Rattle.sms_open.specs.Verdicts.{answer_with}
use Rattle.sms_open.proofs.VerdictLemmas.{IsAnswer, from_replies, from_sets, from_statuses, last-test, onward, passed}
use Rattle.sms_open.proofs.VerdictLemmas.{refused}
use Rattle.sms_open.proofs.testing.judge_under.Goals as goal

pub returns-in_err-answer : goal.returns-in_err-answer
returns-in_err-answer c =
    let rows = c.args.rows.now in
    let active = c.args.active.now in
    let e = c.in_err-answer.field-0.0 in
    let is : c.from_residual.result ≡ Err e = search rules in
    subst (λ (u : Result (Unit {0}) RowsErr). IsAnswer (from_statuses rows active) (answer_with active u)) (sym is) (refused 4 (AreStatusesOf active rows.statuses) (from_sets rows active) c.are_statuses_of.result e (sym c.answer.ensures ∙ c.in_err-answer.was) (rw c.as_slice.ensures at c.are_statuses_of.ensures))

pub returns-in_err-answer-2 : goal.returns-in_err-answer-2
returns-in_err-answer-2 c =
    let rows = c.args.rows.now in
    let active = c.args.active.now in
    let e = c.in_err-answer-2.field-0.0 in
    let is : c.from_residual-in_err-answer-2.result ≡ Err e = search rules in
    let statuses : AreStatusesOf active rows.statuses = passed 4 (AreStatusesOf active rows.statuses) c.are_statuses_of.result c.in_ok-answer.field-0 (sym c.answer.ensures ∙ c.in_ok-answer.was) (rw c.as_slice.ensures at c.are_statuses_of.ensures) in
    subst (λ (u : Result (Unit {0}) RowsErr). IsAnswer (from_statuses rows active) (answer_with active u)) (sym is) (onward (Err e) 4 (AreStatusesOf active rows.statuses) (from_sets rows active) statuses (refused 5 (ArePlaced active rows.sets) (from_replies rows active) c.are_placed.result e (sym c.answer-2.ensures ∙ c.in_err-answer-2.was) (rw c.as_slice-2.ensures at c.are_placed.ensures)))

pub returns : goal.returns
returns c =
    let rows = c.args.rows.now in
    let active = c.args.active.now in
    let r = answer_with active c.answer-3.result in
    let statuses : AreStatusesOf active rows.statuses = passed 4 (AreStatusesOf active rows.statuses) c.are_statuses_of.result c.in_ok-answer.field-0 (sym c.answer.ensures ∙ c.in_ok-answer.was) (rw c.as_slice.ensures at c.are_statuses_of.ensures) in
    let placed : ArePlaced active rows.sets = passed 5 (ArePlaced active rows.sets) c.are_placed.result c.in_ok-answer-2.field-0 (sym c.answer-2.ensures ∙ c.in_ok-answer-2.was) (rw c.as_slice-2.ensures at c.are_placed.ensures) in
    onward r 4 (AreStatusesOf active rows.statuses) (from_sets rows active) statuses (onward r 5 (ArePlaced active rows.sets) (from_replies rows active) placed (last-test rows active c.are_sound_replies.result c.answer-3.result c.answer-3.ensures c.are_sound_replies.ensures))
