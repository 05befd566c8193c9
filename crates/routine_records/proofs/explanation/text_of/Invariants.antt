use Rattle.std.proofs.Common.{◌≡◌, ◌++◌, map, take}
use Rattle.std.specs.Prelude.{flat_map}
use Rattle.routine_records.specs.EventRecords.{front_in, item_records}
use Rattle.routine_records.proofs.explanation.text_of.Given as goal

-- the records of the items that were gone over
abbrev pub invariant-loop-item : goal.invariant-loop-item
invariant-loop-item l = l.text.items ≡ front_in l.form ++ flat_map (item_records l.form l.config l.sources) (map (λ item. item.now) (take l.item-index l.items))
