use Rattle.std.proofs.Common.{◌≡◌, ◌++◌, map, take}
use Rattle.std.specs.Prelude.{flat_map}
use Rattle.sms_outcomes.specs.ItemRecords.{front_in, item_record}
use Rattle.sms_outcomes.proofs.simulating.text_of.Given as goal

-- the records of the items that were gone over
abbrev pub invariant-loop-item : goal.invariant-loop-item
invariant-loop-item l = l.text.items ≡ front_in l.form ++ flat_map (item_record l.form l.config) (map (λ item. item.now) (take l.item-index l.items))
