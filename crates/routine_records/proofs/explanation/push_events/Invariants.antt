use Rattle.std.proofs.Common.{◌≡◌, ◌++◌, take}
use Rattle.std.specs.Prelude.{flat_map}
use Rattle.flat_records.specs.declared.field.FieldValue.TheVariants.{Text}
use Rattle.routine_records.specs.EventRecords.{event_record}
use Rattle.routine_records.proofs.explanation.push_events.Given as goal

-- the records of the events that were gone over
abbrev pub invariant-loop-event : goal.invariant-loop-event
invariant-loop-event l = l.text.items ≡ l.initial.text.items ++ flat_map (event_record l.form l.item (Text l.name) l.source) (take l.event-index l.events)
