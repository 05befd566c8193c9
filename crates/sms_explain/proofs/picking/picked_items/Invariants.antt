-- With what is left, the items are the whole.
use Rattle.std.proofs.Common.{◌≡◌, ◌++◌, length, map}
use Rattle.std.specs.Prelude.{filter}
use Rattle.sms_explain.specs.Picking.{is_picked}
use Rattle.sms_explain.proofs.picking.picked_items.Given as goal

abbrev pub invariant-loop-rest : goal.invariant-loop-rest
invariant-loop-rest l = map (λ item. item.now) l.picked.items ++ filter (is_picked l.job l.number) (map (λ item. item.now) l.rest) ≡ filter (is_picked l.job l.number) (map (λ item. item.now) l.fn.items)

abbrev pub decreases-loop-rest : goal.decreases-loop-rest
decreases-loop-rest l = length l.rest
