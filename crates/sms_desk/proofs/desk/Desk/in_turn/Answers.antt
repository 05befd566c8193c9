use Rattle.std.proofs.Common.{◌≡◌, [], append-nil, sym, subst, ◌∙◌}
use Rattle.turn_lock.specs.Contract.{taken}
use Rattle.desk_law.specs.History.{IsLegal}
use Rattle.sms_desk.proofs.HoldLemmas.{on-err, on-ok}
use Rattle.sms_desk.proofs.TurnLemmas.{may-give, refused-turn, shown-turn}
use Rattle.sms_desk.proofs.desk.Desk.in_turn.Goals as goal

pub give-requires-clause-list : goal.give-requires-clause-list
give-requires-clause-list g c = ([], sym c.requires.untouched ∙ sym (append-nil (taken c.args.turn)), tt)

pub returns-then-is_err : goal.returns-then-is_err
returns-then-is_err g c =
    let kept : c.refresh.new.held ≡ c.args.held.now = on-err c.refresh.result _ (sym c.is_err.ensures.value ∙ c.if-is_err.true) c.refresh.ensures.same in
    refused-turn c.args.self.now.lock.table.shared.table_id c.args.number c.args.turn.number c.args.turn.value c.give.result c.args.held.now c.refresh.new.held c.args.request.now c.no_memory.result
    c.give.ensures.same.0 c.give.ensures.same.1 c.requires.number c.give.ensures.seen c.give.ensures.mine c.no_memory.ensures (subst (λ v. IsLegal v.core.opening v.core.journal) c.shown.ensures c.refresh.ensures.legal) c.requires.held kept

pub give-requires-2-clause-list : goal.give-requires-2-clause-list
give-requires-2-clause-list g c =
    may-give c.args.number c.args.turn.number c.args.turn.value c.value.result.now c.step-answer.new.self (taken c.args.turn) c.args.request.now c.step-answer.result
    c.requires.number c.requires.untouched c.value.ensures.value c.step-answer.ensures

pub returns : goal.returns
returns g c =
    shown-turn c.args.self.now.lock.table.shared.table_id c.args.number c.args.turn.number c.args.turn.value c.value.result.now c.shown.result.now c.step-answer.new.self c.shown-2.result.now c.give-2.result
    c.args.held.now c.refresh.new.held c.renew.new.held c.args.own c.args.request.now c.step-answer.result c.value.ensures.value c.shown.ensures c.shown-2.ensures
    c.give-2.ensures.same.0 c.give-2.ensures.same.1 c.requires.number c.give-2.ensures.seen c.give-2.ensures.mine c.step-answer.ensures c.requires.held
    (on-ok c.refresh.result _ (sym c.is_err.ensures.value ∙ c.if-is_err.false) c.refresh.ensures.current) c.requires.own c.renew.ensures.legal c.renew.ensures.current
