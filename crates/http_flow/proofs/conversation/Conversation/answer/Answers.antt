-- How the conversation stands behind the last answer, or a refusal.
use Rattle.std.proofs.Common.{ap, sym, ◌∙◌, refl, List, ℕ, drop}
use Rattle.http_flow.specs.Flow.{FlowView}
use Rattle.http_flow.specs.declared.phase.Phase.TheVariants as phases
use Rattle.http_flow.proofs.BoundLaws.{need_small}
use Rattle.http_flow.proofs.FlowLaws.{turned_waits, turned_full, turned_closed, turned_refused, turned_memory, within_out}
use Rattle.http_flow.proofs.conversation.Conversation.answer.Goals as goal

pub invariant_of-self : goal.invariant_of-self
invariant_of-self g c =
    (within_out _ _ _ _ _ _ _ c.forget_sent-self-inside.result _ c.forget_sent-self-inside.ensures.within c.in-Waits.ensures, need_small _ _ _ c.in-Waits.ensures.is_end.3)

pub returns-in-Waits : goal.returns-in-Waits
returns-in-Waits g c =
    let v : List ℕ → FlowView = λ l. record { rest = l; need = c.in-Waits.need; due = drop c.forget_sent-self-inside.result c.answer_front.new.out.items; phase = phases.Waits } in
    turned_waits _ _ _ _ c.args.self.now c.self.inside.buffer.items c.forget_sent-self-inside.new.out.items c.answer_front.new.out.items c.forget_sent-self-inside.result c.forget_sent-self-inside.ensures.within
    (sym (ap (λ (v : FlowView). v.rest) c.self.view_is)) (sym (ap (λ (v : FlowView). v.due) c.self.view_is) ∙ sym c.forget_sent-self-inside.ensures.due) _ c.in-Waits.at c.in-Waits.need (rw c.deref.ensures.value at c.in-Waits.ensures) (ap v c.drop_front.ensures)

pub returns-in-Full : goal.returns-in-Full
returns-in-Full g c =
    let v : List ℕ → FlowView = λ l. record { rest = l; need = 0; due = drop c.forget_sent-self-inside.result c.answer_front.new.out.items; phase = phases.Full } in
    turned_full _ _ _ _ c.args.self.now c.self.inside.buffer.items c.forget_sent-self-inside.new.out.items c.answer_front.new.out.items c.forget_sent-self-inside.result c.forget_sent-self-inside.ensures.within
    (sym (ap (λ (v : FlowView). v.rest) c.self.view_is)) (sym (ap (λ (v : FlowView). v.due) c.self.view_is) ∙ sym c.forget_sent-self-inside.ensures.due) _ c.in-Full.at 0 c.forget_sent-self-inside.ensures.part (rw c.deref.ensures.value at c.in-Full.ensures) (ap v c.drop_front-in-Full.ensures)

pub returns-in-Closed : goal.returns-in-Closed
returns-in-Closed g c =
    turned_closed _ _ _ _ c.args.self.now c.self.inside.buffer.items c.forget_sent-self-inside.new.out.items c.answer_front.new.out.items c.forget_sent-self-inside.result c.forget_sent-self-inside.ensures.within
    (sym (ap (λ (v : FlowView). v.rest) c.self.view_is)) (sym (ap (λ (v : FlowView). v.due) c.self.view_is) ∙ sym c.forget_sent-self-inside.ensures.due) _ c.self.inside.need (rw c.deref.ensures.value at c.in-Closed.ensures) refl

pub returns-in-Refused : goal.returns-in-Refused
returns-in-Refused g c =
    turned_refused _ _ _ _ c.args.self.now c.self.inside.buffer.items c.forget_sent-self-inside.new.out.items c.answer_front.new.out.items c.forget_sent-self-inside.result c.forget_sent-self-inside.ensures.within
    (sym (ap (λ (v : FlowView). v.rest) c.self.view_is)) (sym (ap (λ (v : FlowView). v.due) c.self.view_is) ∙ sym c.forget_sent-self-inside.ensures.due) _ c.self.inside.need c.in-Refused.status (rw c.deref.ensures.value at c.in-Refused.ensures) refl

pub returns-in-NoMemory : goal.returns-in-NoMemory
returns-in-NoMemory g c =
    turned_memory _ _ _ _ c.args.self.now c.self.inside.buffer.items c.forget_sent-self-inside.new.out.items c.answer_front.new.out.items c.forget_sent-self-inside.result c.forget_sent-self-inside.ensures.within
    (sym (ap (λ (v : FlowView). v.rest) c.self.view_is)) (sym (ap (λ (v : FlowView). v.due) c.self.view_is) ∙ sym c.forget_sent-self-inside.ensures.due) _ c.self.inside.need (rw c.deref.ensures.value at c.in-NoMemory.ensures) refl
