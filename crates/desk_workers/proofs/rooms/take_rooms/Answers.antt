use Rattle.std.proofs.Common.{◌<◌, length, arith}
use Rattle.desk_workers.proofs.RoomLemmas.{kept-none, kept-put, room-none, room-put}
use Rattle.desk_workers.proofs.rooms.take_rooms.Goals as goal

pub loop-me-init : goal.loop-me-init
loop-me-init g c = (kept-none c.args.seats.now c.requires.none, room-none c.args.plan.now c.args.seats.now)

-- the seat has no answers yet
pub take_room-requires : goal.take_room-requires
take_room-requires g c = record { none = c.loop-me.invariant.0.none c.loop-me.me c.index-seats-me.result c.loop-me-test.true }

-- one more seat has room
pub loop-me-preserved : goal.loop-me-preserved
loop-me-preserved g c =
    let before = c.loop-me.invariant in
    let me = c.loop-me.me in
    let less : me < length c.loop-me.seats = omega (arith, c.loop-me-test.true, c.loop-me.auto.seats) in (
      kept-put me c.args.seats.now c.loop-me.seats c.take_room.new.seat c.index-seats-me.result before.0 less c.take_room.ensures.same c.take_room.ensures.none,
      room-put c.args.plan.now me c.loop-me.seats c.take_room.new.seat before.1 (omega (arith, c.count_of.ensures, c.in_ok-take_room.ensures.room)),
    )

pub returns-clause-kept : goal.returns-clause-kept
returns-clause-kept g c = c.loop-me.invariant.0

pub returns-clause-room : goal.returns-clause-room
returns-clause-room g c = λ k d below at. c.loop-me.invariant.1 k d (omega (arith, below, c.loop-me-test.false)) at
