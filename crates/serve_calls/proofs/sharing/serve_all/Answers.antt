use Rattle.std.proofs.Common.{◌≡◌, ◌++◌, All, Some, length, map, reverse, take, drop, arith, sym, subst, ap, ◌∙◌}
use Rattle.sms_desk.specs.Seats.{IsJobOf}
use Rattle.desk_workers.proofs.SharedLemmas.{lent-all}
use Rattle.serve_calls.specs.Inner.Workers.{HasMost, HasSeat, IsAtSeat, door_of, end_of, seat_of, visits_of}
use Rattle.serve_calls.proofs.ManningLaws.{All-reverse, map-reverse}
use Rattle.serve_calls.proofs.ShiftLaws.{at-seats, have-seats, shifts-done}
use Rattle.serve_calls.proofs.sharing.serve_all.Goals as goal

-- each worker has the seat that it was given
pub work_all-requires-after_bounds : goal.work_all-requires-after_bounds
work_all-requires-after_bounds g c κs within =
    let lock = c.args.desk.now.lock.table.shared.table_id in
    let seats = c.args.seats.now.items in
    subst (All (HasSeat lock)) (sym c.deref_mut.ensures.value)
    (have-seats lock c.hand_out.new.workers.items (reverse seats) (c.hand_out.ensures.seats ∙ sym (map-reverse (λ seat. Some seat) seats)) (All-reverse (IsJobOf lock) seats c.requires.jobs))

-- and is at it
pub take_back-requires-clause-at_seat : goal.take_back-requires-clause-at_seat
take_back-requires-clause-at_seat g c =
    let new = c.work_all.new.workers in
    let whole : c.hand_out.new.workers.len ≡ length new = omega (arith, c.work_all.ensures.count, ap length c.deref_mut.ensures.value, c.hand_out.new.workers.ok.0) in
    subst (All IsAtSeat) (sym (lent-all new (drop (length new) c.hand_out.new.workers.items) c.hand_out.new.workers.len whole))
    (at-seats _ _ c.args.desk.now.lock.table.shared.table_id c.args.most c.deref_mut.result.now new c.work_all.ensures.count c.work_all.ensures.shifts)

pub returns : goal.returns
returns g c =
    let new = c.work_all.new.workers in
    let back = take c.hand_out.new.workers.len (new ++ drop (length new) c.hand_out.new.workers.items) in
    let whole : c.hand_out.new.workers.len ≡ length new = omega (arith, c.work_all.ensures.count, ap length c.deref_mut.ensures.value, c.hand_out.new.workers.ok.0) in
    let same : back ≡ new = lent-all new (drop (length new) c.hand_out.new.workers.items) c.hand_out.new.workers.len whole in
    let before = c.deref_mut.ensures.value in
    record {
      done = shifts-done _ _ c.args.desk.now.lock.table.shared.table_id c.args.most c.deref_mut.result.now new _ _ _ _ _ _ c.work_all.ensures.count c.work_all.ensures.shifts
          (subst (All (HasMost c.args.most)) (sym before) c.hand_out.ensures.most)
          (ap (map seat_of) before ∙ c.hand_out.ensures.seats) (ap (map door_of) before ∙ c.hand_out.ensures.doors)
          (c.take_back.ensures.seats ∙ ap (λ ws. reverse (map seat_of ws)) same) (c.take_back.ensures.doors ∙ ap (λ ws. reverse (map door_of ws)) same)
          (c.take_back.ensures.visits ∙ ap (λ ws. reverse (map visits_of ws)) same) (c.take_back.ensures.ends ∙ ap (λ ws. reverse (map end_of ws)) same);
    }
