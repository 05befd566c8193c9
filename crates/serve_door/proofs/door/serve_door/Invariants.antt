-- The links so far were served.
use Rattle.std.proofs.Common.{◌≡◌, length}
use Rattle.sms_base.specs.Counts.{after_calls}
use Rattle.serve_door.specs.Visits.{Serves, talks_of}
use Rattle.serve_door.proofs.door.serve_door.Given as goal

abbrev pub invariant-loop : goal.invariant-loop
invariant-loop g l = record {
  serves : Serves
      (λ link. record {
        left = g.A.Conn.Source.left link;
        reads = g.A.Conn.Source.reads link;
        read_faults = g.A.Conn.Source.read_faults link;
        taken = g.A.Conn.Sink.taken link;
        write_faults = g.A.Conn.Sink.write_faults link;
      })
      (record {
        asked = g.A.Accept.asked l.initial.door;
        given = g.A.Accept.given l.initial.door;
        ended = g.A.Accept.ended l.initial.door;
        door_faults = g.A.Accept.door_faults l.initial.door;
        link_faults = g.A.Accept.link_faults l.initial.door;
        waiting = g.A.Accept.waiting l.initial.door;
        back = g.A.Accept.back l.initial.door;
      })
      (record {
        asked = g.A.Accept.asked l.door;
        given = g.A.Accept.given l.door;
        ended = g.A.Accept.ended l.door;
        door_faults = g.A.Accept.door_faults l.door;
        link_faults = g.A.Accept.link_faults l.door;
        waiting = g.A.Accept.waiting l.door;
        back = g.A.Accept.back l.door;
      })
      l.visits.items;
  bench : g.B.Bench.follows l.initial.bench (talks_of l.visits.items) l.bench;
  counted : length l.visits.items ≡ l.counter;
  asked : g.A.Accept.asked l.door ≡ after_calls (g.A.Accept.asked l.initial.door) (length l.visits.items);
  door_faults : g.A.Accept.door_faults l.door ≡ g.A.Accept.door_faults l.initial.door;
}
