use Rattle.std.proofs.Common.{◌≡◌, ◌≤◌, length}
use Rattle.acs_tree.specs.Numbers.{value_behind, value_of}
use Rattle.acs_tree.proofs.numbers.value_up_to.Given as goal

abbrev pub invariant-digits : goal.invariant-digits
invariant-digits l = (value_behind l.value l.rest ≡ value_of l.digits) × (l.value ≤ l.most)

abbrev pub decreases-digits : goal.decreases-digits
decreases-digits l = length l.rest
