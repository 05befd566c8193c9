use Rattle.std.proofs.Common.{◌≡◌, ◌≤◌, ◌-◌, length, max, vec_capacity}
use Rattle.track_ledger.proofs.gap_list.fill.Given as goal

abbrev pub invariant-loop-alloc : goal.invariant-loop-alloc
invariant-loop-alloc l = (vec_capacity l.spares ≡ vec_capacity l.initial.spares) × ((length l.initial.spares.items ≤ length l.spares.items) × (length l.spares.items ≤ max l.count (length l.initial.spares.items)))

abbrev pub decreases-loop-alloc : goal.decreases-loop-alloc
decreases-loop-alloc l = l.count - length l.spares.items
