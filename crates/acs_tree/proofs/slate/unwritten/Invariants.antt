use Rattle.std.proofs.Common.{◌≡◌, length}
use Rattle.acs_tree.proofs.slate.unwritten.Given as goal

abbrev pub invariant-loop : goal.invariant-loop
invariant-loop l = length l.room.items ≡ l.counter
