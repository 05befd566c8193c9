use Rattle.std.proofs.Common.{◌≡◌, map, take}
use Rattle.std.specs.Prelude.{flat_map}
use Rattle.volume_reasons.specs.Explained.{told_with_volumes}
use Rattle.volume_reasons.proofs.explaining.text_of.Given as goal

-- what is told of the items that were gone over
abbrev pub invariant-loop-item : goal.invariant-loop-item
invariant-loop-item l = l.text.items ≡ flat_map (told_with_volumes l.config l.sources) (map (λ item. item.now) (take l.item-index l.items))
