-- What was heard so far, and that the clerk has room.
use Rattle.std.proofs.Common.{◌≡◌, true}
use Rattle.serve_poll.specs.Visitors.{Advances}
use Rattle.serve_poll.proofs.visitor.advance.Given as goal

abbrev pub invariant-loop : goal.invariant-loop
invariant-loop g l = record {
  advances : Advances
      (record { port = l.site; refusal = g.K.Pages.refusal }) g.K.Pages.shows
      (record { talks = g.K.Clerk.talks l.initial.clerk; start = g.K.Pages.begun l.initial.clerk })
      (record { talks = g.K.Clerk.talks l.clerk; start = g.K.Pages.begun l.clerk })
      (record {
        number = l.initial.visitor.number;
        wire = g.C.Wire.seen l.initial.visitor.conn;
        flow = l.initial.visitor.conversation;
      })
      (record {
        number = l.visitor.number;
        wire = g.C.Wire.seen l.visitor.conn;
        flow = l.visitor.conversation;
      });
  room : (g.K.Pages.begun l.clerk).has_room (g.K.Clerk.talks l.clerk) ≡ true;
}
