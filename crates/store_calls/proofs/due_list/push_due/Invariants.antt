-- With what is left, the text is the whole.
use Rattle.std.proofs.Common.{◌≡◌, ◌++◌, length}
use Rattle.std.specs.Prelude.{flat_map}
use Rattle.store_calls.specs.StoreDue.{due_line}
use Rattle.store_calls.proofs.due_list.push_due.Given as goal

abbrev pub invariant-loop-rest : goal.invariant-loop-rest
invariant-loop-rest l = l.text.items ++ flat_map (due_line l.config l.day) l.rest ≡ l.fn.text.items ++ flat_map (due_line l.config l.day) l.fn.sets

abbrev pub decreases-loop-rest : goal.decreases-loop-rest
decreases-loop-rest l = length l.rest
