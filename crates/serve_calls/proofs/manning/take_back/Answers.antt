use Rattle.std.proofs.Common.{rules, Some, map, refl, ap, ◌∙◌}
use Rattle.std.proofs.lemmas.List.{map_push}
use Rattle.serve_calls.specs.Inner.Workers.{IsAtSeat, door_of, end_of, seat_of, visits_of}
use Rattle.serve_calls.proofs.ManningLaws.{brought, fewer}
use Rattle.serve_calls.proofs.manning.take_back.Goals as goal

-- one more worker gave back what it had
pub loop-worker-preserved : goal.loop-worker-preserved
loop-worker-preserved g c =
    let inv = c.loop-worker.invariant in
    let worker = c.in-Some.worker in
    let workers = c.loop-worker.workers.items in
    let rest = c.pop.new.self.items in
    let left = c.in-Some.ensures.items in (
      (fewer IsAtSeat workers rest worker left inv.0),
      (search rules),
      (search rules),
      (search rules),
      (search rules),
      (brought seat_of workers rest worker (map (λ seat. Some seat) c.loop-worker.seats.items) (map (λ seat. Some seat) c.push_reserved.new.self.items) _ (Some c.in-Some-seat.seat) left
          (ap (map (λ seat. Some seat)) c.push_reserved.ensures.items ∙ map_push (λ seat. Some seat) c.loop-worker.seats.items c.in-Some-seat.seat) (search rules) inv.5),
      (brought door_of workers rest worker c.loop-worker.doors.items c.push_reserved-in-Some.new.self.items _ worker.door left c.push_reserved-in-Some.ensures.items refl inv.6),
      (brought visits_of workers rest worker c.loop-worker.visits.items c.push_reserved-in-Some-2.new.self.items _ worker.visits left c.push_reserved-in-Some-2.ensures.items refl inv.7),
      (brought end_of workers rest worker c.loop-worker.ends.items c.push_reserved-in-Some-3.new.self.items _ worker.end left c.push_reserved-in-Some-3.ensures.items refl inv.8),
    )
