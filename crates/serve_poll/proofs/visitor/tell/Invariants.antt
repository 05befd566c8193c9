-- What was told so far.
use Rattle.std.proofs.Common.{◌≡◌, ◌-◌, length}
use Rattle.serve_poll.proofs.VisitorLaws.{IsTelling}
use Rattle.serve_poll.proofs.visitor.tell.Given as goal

abbrev pub invariant-loop-done : goal.invariant-loop-done
invariant-loop-done g l = record {
  telling : IsTelling (g.C.Wire.seen l.conn) l.text l.done;
  watch : (g.C.Wire.seen l.conn).watch ≡ (g.C.Wire.seen l.initial.conn).watch;
}

abbrev pub decreases-loop-done : goal.decreases-loop-done
decreases-loop-done g l = length l.text - l.done
