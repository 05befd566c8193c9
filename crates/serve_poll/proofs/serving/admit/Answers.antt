-- A connection that came.
use Rattle.std.proofs.Common.{◌∙◌, sym, refl, ap}
use Rattle.serve_poll.specs.declared.step.Left.TheVariants as lefts
use Rattle.serve_poll.specs.declared.visitor.Visitor.{Visitor}
use Rattle.serve_poll.proofs.HallLaws.{put_back, leave}
use Rattle.serve_poll.proofs.ServingLaws.{new_flow, turned_away, entered, under_same, not_same, first_vain, first_quiet, not_vain_first, turn_again, watched_in, watched_more}
use Rattle.serve_poll.proofs.serving.admit.Goals as goal

pub returns-then-not-has_room-clause-stands : goal.returns-then-not-has_room-clause-stands
returns-then-not-has_room-clause-stands g c = λ terms before arrived.
    let v : Visitor g.row.P-Conn.Denot = record { number = c.args.hall.now.count; conn = c.tell.new.conn; conversation = new_flow } in
    turned_away _ _ before _ _ _ _ c.args.hall.now v arrived
    (record { came = c.done.ensures.came; idle = c.done.ensures.idle }) refl (c.has_room.ensures.none c.if-not-has_room.true) (c.tell.ensures.watch ∙ c.requires.watch) c.tell.ensures.told c.done.ensures.back

pub returns-in-Ok-clause-stands : goal.returns-in-Ok-clause-stands
returns-in-Ok-clause-stands g c = λ terms before arrived.
    let seen = g.P.Conn.Wire.seen in
    let key = c.vacant_key.result in
    let told = c.in-Ok.ensures.conn in
    let u : Visitor g.row.P-Conn.Denot = record { number = c.args.hall.now.count; conn = c.args.conn; conversation = c.new.result } in
    let v : Visitor g.row.P-Conn.Denot = record { number = c.args.hall.now.count; conn = c.watch.new.conn; conversation = c.new.result } in
    entered _ _ before _ _ _ _ c.args.hall.now _ key u v arrived
    (record { came = c.watch.ensures.came; idle = c.watch.ensures.idle }) (c.has_room.ensures.some c.if-not-has_room.false).0 c.vacant_key.ensures.vacant refl c.new.ensures c.requires.watch c.requires.came c.requires.taken refl refl
    (under_same _ _ (seen c.args.conn) (seen c.watch.new.conn) told) (first_vain _ _ (seen c.args.conn) (seen c.watch.new.conn) c.requires.watch told)
    (λ all first old out. rw c.watch.ensures.back (put_back _ _ first _ all old _ _ _ c.args.hall.now.seats _ key v out (ap (λ w. w.watch.key) told) (rw c.watch.ensures.idle (first_quiet key _ (seen c.args.conn) (seen c.watch.new.conn) c.requires.watch told)) (rw (c.insert_reserved.ensures.key ∙ sym c.vacant_key.ensures.value) at c.insert_reserved.ensures.updates) c.insert_reserved.ensures.len c.insert_reserved.ensures.capacity))

pub returns-in-Ok-clause-watched : goal.returns-in-Ok-clause-watched
returns-in-Ok-clause-watched g c = λ h.
    let seen = g.P.Conn.Wire.seen in
    let v : Visitor g.row.P-Conn.Denot = record { number = c.args.hall.now.count; conn = c.watch.new.conn; conversation = c.new.result } in
    watched_in seen _ _ c.args.hall.now.seats _ c.vacant_key.result v c.watch.ensures.awaited h (rw (c.insert_reserved.ensures.key ∙ sym c.vacant_key.ensures.value) at c.insert_reserved.ensures.updates)
    (turn_again _ c.vacant_key.result _ (seen c.args.conn) (seen c.watch.new.conn) c.new.result c.in-Ok.ensures.conn c.in-Ok.ensures.told)

pub returns-in-Err-clause-stands : goal.returns-in-Err-clause-stands
returns-in-Err-clause-stands g c = λ terms before arrived.
    let seen = g.P.Conn.Wire.seen in
    let key = c.vacant_key.result in
    let told = c.in-Err.ensures.conn in
    let u : Visitor g.row.P-Conn.Denot = record { number = c.args.hall.now.count; conn = c.args.conn; conversation = c.new.result } in
    let v : Visitor g.row.P-Conn.Denot = record { number = c.args.hall.now.count; conn = c.watch.new.conn; conversation = c.new.result } in
    entered _ _ before _ _ _ _ c.args.hall.now _ key u v arrived
    (record { came = c.done-in-Err.ensures.came ∙ c.watch.ensures.came; idle = c.done-in-Err.ensures.idle ∙ c.watch.ensures.idle }) (c.has_room.ensures.some c.if-not-has_room.false).0 c.vacant_key.ensures.vacant refl c.new.ensures c.requires.watch c.requires.came c.requires.taken refl refl
    (not_same (seen c.args.conn) (seen c.watch.new.conn) told) (not_vain_first (seen c.args.conn) (seen c.watch.new.conn) c.requires.watch told)
    (λ all first old out. leave _ _ first _ all old _ _ _ _ _ key v lefts.Unwatched out (ap (λ w. w.watch.failed) told) (rw c.watch.ensures.back at c.done-in-Err.ensures.back))

pub returns-then-not-has_room-clause-watched : goal.returns-then-not-has_room-clause-watched
returns-then-not-has_room-clause-watched g c = λ h. watched_more g.P.Conn.Wire.seen _ _ c.args.hall.now.seats c.done.ensures.awaited h

pub returns-in-Err-clause-watched : goal.returns-in-Err-clause-watched
returns-in-Err-clause-watched g c = λ h. watched_more g.P.Conn.Wire.seen _ _ c.args.hall.now.seats (λ other told. c.done-in-Err.ensures.awaited other (c.watch.ensures.awaited other told)) h
