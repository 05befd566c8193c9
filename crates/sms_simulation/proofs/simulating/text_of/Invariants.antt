use Rattle.std.proofs.Common.{◌≡◌, map, take}
use Rattle.std.specs.Prelude.{flat_map}
use Rattle.sms_simulation.specs.Simulation.{item_text}
use Rattle.sms_simulation.proofs.simulating.text_of.Given as goal

-- what is printed of the items that were gone over
abbrev pub invariant-loop-item : goal.invariant-loop-item
invariant-loop-item l = l.text.items ≡ flat_map (item_text l.config) (map (λ item. item.now) (take l.item-index l.items))
