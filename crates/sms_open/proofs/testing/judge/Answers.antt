use Rattle.std.proofs.Common.{◌≡◌, Err, Ok, sym, ◌∙◌, subst, rules}
use Rattle.std.specs.declared.alloc.AllocError.{AllocError}
use Rattle.desk_law.specs.Decked.{IsLastActive}
use Rattle.sms_open.specs.Tests.{AreCounted, AreSingle}
use Rattle.sms_open.specs.Verdicts.{IsVerdict}
use Rattle.sms_open.proofs.VerdictLemmas.{IsAnswer, from_counts, from_deck, from_statuses, onward, passed, refused}
use Rattle.sms_open.proofs.VerdictLemmas.{under, unread}
use Rattle.sms_open.proofs.testing.judge.Goals as goal

pub returns-in_err-answer : goal.returns-in_err-answer
returns-in_err-answer c =
    let rows = c.args.rows.now in
    let e = c.in_err-answer.field-0.0 in
    let is : c.from_residual.result ≡ Err e = search rules in
    subst (IsAnswer (IsVerdict rows)) (sym is) (refused 1 (AreSingle rows) (from_counts rows) c.are_single.result e (sym c.answer.ensures ∙ c.in_err-answer.was) c.are_single.ensures)

pub returns-in_err-answer-2 : goal.returns-in_err-answer-2
returns-in_err-answer-2 c =
    let rows = c.args.rows.now in
    let e = c.in_err-answer-2.field-0.0 in
    let is : c.from_residual-in_err-answer-2.result ≡ Err e = search rules in
    let single : AreSingle rows = passed 1 (AreSingle rows) c.are_single.result c.in_ok-answer.field-0 (sym c.answer.ensures ∙ c.in_ok-answer.was) c.are_single.ensures in
    subst (IsAnswer (IsVerdict rows)) (sym is) (onward (Err e) 1 (AreSingle rows) (from_counts rows) single (refused {E = AllocError} 2 (AreCounted rows) (from_deck rows) (Ok c.are_counted.result) e (sym c.answer-2.ensures ∙ c.in_err-answer-2.was) c.are_counted.ensures))

pub returns-in_err-active : goal.returns-in_err-active
returns-in_err-active c =
    let rows = c.args.rows.now in
    let e = c.in_err-active.field-0.0 in
    let is : c.from_residual-in_err-active.result ≡ Err e = search rules in
    let single : AreSingle rows = passed 1 (AreSingle rows) c.are_single.result c.in_ok-answer.field-0 (sym c.answer.ensures ∙ c.in_ok-answer.was) c.are_single.ensures in
    let counted : AreCounted rows = passed {E = AllocError} 2 (AreCounted rows) (Ok c.are_counted.result) c.in_ok-answer-2.field-0 (sym c.answer-2.ensures ∙ c.in_ok-answer-2.was) c.are_counted.ensures in
    subst (IsAnswer (IsVerdict rows)) (sym is) (onward (Err e) 1 (AreSingle rows) (from_counts rows) single (onward (Err e) 2 (AreCounted rows) (from_deck rows) counted (unread rows.decks (from_statuses rows) e (rw c.as_slice.ensures at c.in_err-active.ensures.err))))

pub returns-in-Ok : goal.returns-in-Ok
returns-in-Ok c =
    let rows = c.args.rows.now in
    let single : AreSingle rows = passed 1 (AreSingle rows) c.are_single.result c.in_ok-answer.field-0 (sym c.answer.ensures ∙ c.in_ok-answer.was) c.are_single.ensures in
    let counted : AreCounted rows = passed {E = AllocError} 2 (AreCounted rows) (Ok c.are_counted.result) c.in_ok-answer-2.field-0 (sym c.answer-2.ensures ∙ c.in_ok-answer-2.was) c.are_counted.ensures in
    let active = c.in_ok-active.active in
    let last : IsLastActive rows.decks active = rw c.as_slice.ensures at c.in_ok-active.ensures.ok in
    onward (Ok active) 1 (AreSingle rows) (from_counts rows) single (onward (Ok active) 2 (AreCounted rows) (from_deck rows) counted (under (Ok active) 3 rows.decks (from_statuses rows) active last (c.in-Ok.ensures)))

pub returns-in-Err : goal.returns-in-Err
returns-in-Err c =
    let rows = c.args.rows.now in
    let single : AreSingle rows = passed 1 (AreSingle rows) c.are_single.result c.in_ok-answer.field-0 (sym c.answer.ensures ∙ c.in_ok-answer.was) c.are_single.ensures in
    let counted : AreCounted rows = passed {E = AllocError} 2 (AreCounted rows) (Ok c.are_counted.result) c.in_ok-answer-2.field-0 (sym c.answer-2.ensures ∙ c.in_ok-answer-2.was) c.are_counted.ensures in
    let active = c.in_ok-active.active in
    let last : IsLastActive rows.decks active = rw c.as_slice.ensures at c.in_ok-active.ensures.ok in
    onward (Err c.in-Err.err) 1 (AreSingle rows) (from_counts rows) single (onward (Err c.in-Err.err) 2 (AreCounted rows) (from_deck rows) counted (under (Err c.in-Err.err) 3 rows.decks (from_statuses rows) active last (c.in-Err.ensures)))
