use Rattle.std.proofs.Common.{◌≤◌, length, drop}
use Rattle.acs_tree.specs.Conditions.{equals_any}
use Rattle.acs_code.specs.Compiled.{filters_of}
use Rattle.acs_code.specs.Inner.Upward.{Branches}
use Rattle.acs_code.proofs.conditions.items.Given as goal

abbrev pub invariant-loop-left : goal.invariant-loop-left
invariant-loop-left l = (l.left ≤ length l.items) × (length l.fn.code ≤ length l.code) × Branches l.kind (filters_of l.lists) (equals_any l.lists l.subject (drop l.left l.items)) l.fork.holds l.fork.fails l.fn.code l.code

abbrev pub decreases-loop-left : goal.decreases-loop-left
decreases-loop-left l = l.left
