use Rattle.std.proofs.Common.{subst, sym, subst₂}
use denote.Param.Send.{sendable}
use Rattle.desk_workers.proofs.SendLemmas.{desk-sync}
use Rattle.serve_calls.specs.Seen.{seen_door, seen_link}
use Rattle.serve_calls.specs.Inner.Workers.{DidShift, HasSeat}
use Rattle.serve_calls.proofs.SendLemmas.{worker-send}
use Rattle.serve_calls.proofs.working.work_all.Goals as goal

pub for_each_mut-requires-send-T : goal.for_each_mut-requires-send-T
for_each_mut-requires-send-T g c κs within = search (sendable, worker-send) depth 20

pub for_each_mut-requires-sync-F : goal.for_each_mut-requires-sync-F
for_each_mut-requires-sync-F g c κs within =
    search (sendable, desk-sync) depth 40

-- each worker has its seat
pub for_each_mut-requires-clause-accepts : goal.for_each_mut-requires-clause-accepts
for_each_mut-requires-clause-accepts g c κs within i p less is =
    subst (HasSeat c.args.desk.now.lock.table.shared.table_id) (sym is) (c.requires i p.now less)

pub returns-clause-shifts : goal.returns-clause-shifts
returns-clause-shifts g c = λ i d less.
    let h = (c.for_each_mut.ensures i d less).1 in
    subst₂ (λ new old. DidShift
    (seen_link g.A.Conn.Source.left g.A.Conn.Source.reads g.A.Conn.Source.read_faults g.A.Conn.Sink.taken
    g.A.Conn.Sink.write_faults)
    (seen_door g.A.Accept.asked g.A.Accept.given g.A.Accept.ended g.A.Accept.door_faults g.A.Accept.link_faults
    g.A.Accept.waiting g.A.Accept.back)
    c.args.desk.now.lock.table.shared.table_id old new) h.left h.argument_is h.call
