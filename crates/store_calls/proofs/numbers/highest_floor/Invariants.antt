-- What bounds the floors that are left bounds all, with the highest so far.
use Rattle.std.proofs.Common.{◌≤◌, ℕ, length}
use Rattle.desk_law.specs.Kept.{greatest_floor}
use Rattle.store_calls.proofs.numbers.highest_floor.Given as goal

abbrev pub invariant-loop-rest : goal.invariant-loop-rest
invariant-loop-rest l = (x : ℕ) → greatest_floor l.job l.rest ≤ x → l.highest ≤ x → greatest_floor l.job l.fn.floors ≤ x

abbrev pub decreases-loop-rest : goal.decreases-loop-rest
decreases-loop-rest l = length l.rest
