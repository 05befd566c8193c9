use Rattle.std.proofs.Common.{map, take}
use Rattle.std.specs.Prelude.{flat_map}
use Rattle.sms_coverage.specs.Events.{AreCounted, runs_of_item}
use Rattle.sms_coverage.proofs.counting.counted.Given as goal

-- the items that were gone over are counted
abbrev pub invariant-loop-item : goal.invariant-loop-item
invariant-loop-item l = AreCounted (flat_map (runs_of_item l.config) (map (λ item. item.now) (take l.item-index l.items))) l.tallies
