use Rattle.desk_workers.specs.Inner.Rooms.{AreKept, HaveRoom}
use Rattle.desk_workers.proofs.rooms.take_rooms.Given as goal

-- the seats are as they were, and those so far have room
abbrev pub invariant-loop-me : goal.invariant-loop-me
invariant-loop-me g l = AreKept l.initial.seats l.seats × HaveRoom l.plan l.me l.seats
