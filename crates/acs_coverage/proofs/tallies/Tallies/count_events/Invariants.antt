use Rattle.std.proofs.Common.{◌++◌, List, take}
use Rattle.acs_coverage.specs.Counts.{AreCounts}
use Rattle.acs_trace.specs.declared.event.Event.{Event}
use Rattle.acs_coverage.proofs.tallies.Tallies.count_events.Given as goal

-- the events that were gone over are counted
abbrev pub invariant-loop-event : goal.invariant-loop-event
invariant-loop-event l = (before : List Event) → AreCounts before l.initial.self → AreCounts (before ++ take l.event-index l.events) l.self
