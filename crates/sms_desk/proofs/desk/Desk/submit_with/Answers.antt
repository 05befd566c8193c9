use Rattle.std.proofs.Common.{rules, refl}
use Rattle.sms_desk.proofs.HoldLemmas.{holding-starts, work-starts}
use Rattle.sms_desk.proofs.TurnLemmas.{begun-turn, turn-submitted}
use Rattle.sms_desk.specs.Seats.{job_seen}
use Rattle.sms_desk.specs.Signed.{list_of}
use Rattle.sms_desk.proofs.desk.Desk.submit_with.Goals as goal

pub in_turn-back-requires-clause-work : goal.in_turn-back-requires-clause-work
in_turn-back-requires-clause-work g c =
    let j = c.args.seat.now in
    work-starts (list_of c.take-turn.result.value) (job_seen j) c.args.request.now j.slate c.args.work (begun-turn c.args.self.now.lock.table.shared.table_id j c.in-Some.free (list_of c.take-turn.result.value) (search rules) c.take-turn.ensures.stands.0) c.requires.seat.begun c.requires.work

pub in_turn-back-requires-clause-held : goal.in_turn-back-requires-clause-held
in_turn-back-requires-clause-held g c =
    let j = c.args.seat.now in
    holding-starts (list_of c.take-turn.result.value) (job_seen j) j.held (begun-turn c.args.self.now.lock.table.shared.table_id j c.in-Some.free (list_of c.take-turn.result.value) (search rules) c.take-turn.ensures.stands.0) c.requires.seat.begun c.requires.seat.holding

pub returns : goal.returns
returns g c =
    turn-submitted c.args.self.now.lock.table.shared.table_id c.args.seat.now _ c.in-Some.free _ (list_of c.take-turn.result.value) c.number-number.result c.args.request.now _
    (search rules) (search rules) refl c.requires.seat c.take-turn.ensures.stands.0 c.take-turn.ensures.stands.1 (search rules) c.in_turn-back.ensures
