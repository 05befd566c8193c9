-- What was served so far.
use Rattle.std.proofs.Common.{◌≡◌, ◌≤◌, ◌-◌, true}
use Rattle.sms_base.specs.Counts.{after_calls}
use Rattle.page_clerk.specs.Shows.{begun_with}
use Rattle.serve_poll.specs.Halls.{AreWatched}
use Rattle.smsd_serving.specs.Inner.Serving.{GoesOnServing}
use Rattle.smsd_serving.proofs.keeping.serve_epochs.Given as goal

abbrev pub invariant-loop-made : goal.invariant-loop-made
invariant-loop-made g l = record {
  goes_on : GoesOnServing g.P.Keeper.told g.P.Keeper.count g.R.Conn.Wire.seen l.room.site l.initial.clerk l.clerk
      (g.R.Readiness.seen l.initial.poller) (g.R.Readiness.seen l.poller)
      (g.R.Readiness.back l.initial.poller) (g.R.Readiness.back l.poller) l.initial.hall l.hall;
  room : (begun_with l.clerk.start).has_room l.clerk.talks ≡ true;
  watched : AreWatched g.R.Conn.Wire.seen (g.R.Readiness.seen l.poller).awaited l.hall.seats;
  calls : (g.R.Readiness.seen l.poller).calls ≡ after_calls (g.R.Readiness.seen l.initial.poller).calls l.made;
  within : l.made ≤ l.turns;
  most : l.hall.most ≡ l.initial.hall.most;
  faults : (g.R.Readiness.seen l.initial.poller).faults ≤ (g.R.Readiness.seen l.poller).faults;
}

abbrev pub decreases-loop-made : goal.decreases-loop-made
decreases-loop-made g l = l.turns - l.made
