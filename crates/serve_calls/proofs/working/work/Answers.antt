use Rattle.std.proofs.Common.{rules, [], refl}
use Rattle.serve_door.specs.declared.door_end.DoorEnd.TheVariants as door_ends
use Rattle.desk_http.proofs.SeatLaws.{HasSubmitted-nil}
use Rattle.desk_http.specs.SeatTalks.{view_of}
use Rattle.serve_calls.proofs.ShiftLaws.{WasServed-nil, job-through, submitted-through}
use Rattle.serve_calls.proofs.working.work.Goals as goal

-- without memory nothing was served
pub returns-in_default : goal.returns-in_default
returns-in_default g c =
    let lock = c.args.desk.now.lock.table.shared.table_id in
    record {
      one = record {
        seat_before = c.requires.its;
        seat_after = c.requires.its;
        door_before = c.args.worker.now.door;
        door_after = c.args.worker.now.door;
        visited = [];
        ended = door_ends.NoMemory;
      };
      done = record { job = c.requires.job; submitted = HasSubmitted-nil (view_of lock c.requires.its); served = WasServed-nil _ c.args.worker.now.most _ };
      seat_is = c.requires.is;
      seat_now = c.requires.is;
      door_is = refl;
      door_now = refl;
      visits_are = (search rules);
      end_is = refl;
    }

-- the worker did one shift
pub returns : goal.returns
returns g c =
    let lock = c.args.desk.now.lock.table.shared.table_id in
    let seat = c.in-Some.seat in
    let talks = c.serve_door-end.ensures.bench in
    record {
      one = record {
        seat_before = seat;
        seat_after = c.into_seat.result;
        door_before = c.args.worker.now.door;
        door_after = c.serve_door-end.new.door;
        visited = c.serve_door-end.result.2;
        ended = c.serve_door-end.result.0;
      };
      done = record {
        job = job-through _ _ lock seat c.into_seat.result _ c.new-bench.ensures talks c.into_seat.ensures.job;
        submitted = submitted-through _ _ lock seat c.into_seat.result _ c.new-bench.ensures c.into_seat.ensures.seat talks;
        served = c.serve_door-end.ensures.served;
      };
      seat_is = (search rules);
      seat_now = refl;
      door_is = refl;
      door_now = refl;
      visits_are = refl;
      end_is = refl;
    }
