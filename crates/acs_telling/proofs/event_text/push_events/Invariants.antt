use Rattle.std.proofs.Common.{◌≡◌, ◌++◌, take}
use Rattle.acs_telling.specs.Telling.{events_text}
use Rattle.acs_telling.proofs.event_text.push_events.Given as goal

-- the lines so far
abbrev pub invariant-loop-event : goal.invariant-loop-event
invariant-loop-event l = l.text.items ≡ l.initial.text.items ++ events_text l.source (take l.event-index l.events)
