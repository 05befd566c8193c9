-- What the desk's message at the front came to.
use Rattle.std.proofs.Common.{◌∙◌, sym, refl, inr}
use Rattle.http_flow.proofs.NextLaws.{desk_wanting, desk_last, desk_on, next_memory, next_refused, next_waits, pends_desk}
use Rattle.http_flow.proofs.answering.answer_desk.Goals as goal

pub returns-then-is_err : goal.returns-then-is_err
returns-then-is_err g c = λ port here page.
    desk_wanting _ _ _ _ _ _ _ c.requires c.answer_one.result c.in-Message.len c.in-Message.request c.in-Message.closes (rw c.in-Message.is at c.in-Ok.ensures) here c.answer_one.ensures (sym c.is_err.ensures.value ∙ c.if-is_err.true)

pub returns-then-closes : goal.returns-then-closes
returns-then-closes g c = λ port here page.
    desk_last _ _ _ _ _ _ _ c.requires c.answer_one.result c.in-Message.len c.in-Message.request c.in-Message.closes (rw c.in-Message.is at c.in-Ok.ensures) here c.answer_one.ensures (sym c.is_err.ensures.value ∙ c.if-is_err.false) c.if-closes.true

pub returns-else-closes : goal.returns-else-closes
returns-else-closes g c = λ port here page.
    desk_on _ _ _ _ _ _ _ c.requires c.answer_one.result c.in-Message.len c.in-Message.request c.in-Message.closes (rw c.in-Message.is at c.in-Ok.ensures) here c.answer_one.ensures (sym c.is_err.ensures.value ∙ c.if-is_err.false) c.if-closes.false

pub returns-in-Refusal : goal.returns-in-Refusal
returns-in-Refusal g c = λ port here page.
    let stops = rw c.in-Refusal.is at c.in-Ok.ensures in
    next_refused _ _ _ _ _ _ _ c.requires c.in-Refusal.status c.refuse.result refl refl (inr (stops.1, here, page)) c.refuse.ensures

pub returns-in-Wait : goal.returns-in-Wait
returns-in-Wait g c = λ port here page.
    next_waits _ _ _ _ _ _ _ c.requires c.in-Wait.need refl refl refl (pends_desk port c.args.buf.now c.in-Wait.need (rw c.in-Wait.is at c.in-Ok.ensures))

pub returns-in_default : goal.returns-in_default
returns-in_default g c = λ port here page. next_memory _ _ _ _ _ _ _ c.requires refl refl refl
