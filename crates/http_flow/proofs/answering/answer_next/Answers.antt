-- What a page at the front came to.
use Rattle.std.proofs.Common.{◌∙◌, ◌+◌, ◌-◌, sym, refl, ap, take, drop, arith, inl}
use Rattle.http_flow.proofs.NextLaws.{next_refused, next_waits, pends_page, shown_on, shown_last, shown_wanting}
use Rattle.http_flow.proofs.answering.answer_next.Goals as goal

pub returns-then-buf-start : goal.returns-then-buf-start
returns-then-buf-start g c =
    next_waits _ _ _ _ _ _ _ c.requires (c.in-Page.start + c.in-Page.size) refl refl refl (pends_page c.args.site.now c.args.buf.now _ c.in-Page.start c.in-Page.ensures.0 c.if-buf-start.true)

pub of-requires-clause-ordered : goal.of-requires-clause-ordered
of-requires-clause-ordered g c = c.in-Page.ensures.1.0

pub of-requires-clause-in_range : goal.of-requires-clause-in_range
of-requires-clause-in_range g c = c.in-Page.ensures.1.1

pub returns-then-closes : goal.returns-then-closes
returns-then-closes g c =
    shown_last _ _ _ _ _ _ _ c.requires c.show.result _ c.in-Page.start (take (c.in-Page.start + c.in-Page.size - c.in-Page.start) (drop c.in-Page.start c.args.buf.now)) c.in-Page.ensures.0 c.if-buf-start.false
    (ap (λ n. take n (drop c.in-Page.start c.args.buf.now)) (omega arith)) refl (rw c.of.ensures at c.show.ensures.ok) (sym c.is_err.ensures.value ∙ c.if-is_err.false) c.if-closes.true

pub returns-else-closes : goal.returns-else-closes
returns-else-closes g c =
    shown_on _ _ _ _ _ _ _ c.requires c.show.result _ c.in-Page.start (take (c.in-Page.start + c.in-Page.size - c.in-Page.start) (drop c.in-Page.start c.args.buf.now)) c.in-Page.ensures.0 c.if-buf-start.false
    (ap (λ n. take n (drop c.in-Page.start c.args.buf.now)) (omega arith)) refl (rw c.of.ensures at c.show.ensures.ok) (sym c.is_err.ensures.value ∙ c.if-is_err.false) c.if-closes.false

pub returns-then-is_err : goal.returns-then-is_err
returns-then-is_err g c = shown_wanting _ _ _ _ _ _ _ c.requires c.show.result refl c.show.ensures.err (sym c.is_err.ensures.value ∙ c.if-is_err.true)

pub returns-in-Elsewhere : goal.returns-in-Elsewhere
returns-in-Elsewhere g c = next_refused _ _ _ _ _ _ _ c.requires 403 c.refuse.result refl refl (inl (refl, c.in-Elsewhere.ensures)) c.refuse.ensures
