use Rattle.std.proofs.Common.{[], append-nil, sym, subst, ◌∙◌}
use Rattle.turn_lock.specs.Contract.{taken}
use Rattle.desk_signing.specs.Signing.{IsLegalList}
use Rattle.sms_desk.specs.Signed.{list_of}
use Rattle.sms_desk.specs.Seats.{HoldsOf}
use Rattle.sms_desk.proofs.HoldLemmas.{fresh-holding}
use Rattle.sms_desk.proofs.TurnLemmas.{legal-list, list-holding}
use Rattle.sms_desk.proofs.desk.Desk.look.Goals as goal

pub give-requires-clause-list : goal.give-requires-clause-list
give-requires-clause-list g c = ([], sym c.requires.untouched ∙ sym (append-nil (taken c.args.turn)), tt)

pub returns-clause-legal : goal.returns-clause-legal
returns-clause-legal g c = subst (λ v. IsLegalList (list_of v)) c.shown.ensures (legal-list c.shown.result.now c.refresh.ensures.legal)

pub returns-clause-fresh : goal.returns-clause-fresh
returns-clause-fresh g c =
    let v = c.shown.result.now in
    subst (λ v. HoldsOf (list_of v) c.refresh.new.held) c.shown.ensures
    (list-holding v c.refresh.new.held (fresh-holding c.refresh.result v.core.opening v.core.journal c.refresh.new.held c.refresh.ensures.legal c.refresh.ensures.current c.refresh.ensures.same))
