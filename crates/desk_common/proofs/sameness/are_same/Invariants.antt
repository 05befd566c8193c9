use Rattle.std.proofs.Common.{◌≡◌, ◌≤◌, ◌-◌, drop, length}
use Rattle.std.specs.Prelude.{bytes_eq}
use Rattle.desk_common.proofs.sameness.are_same.Given as goal

-- what is left of the two decides
abbrev pub invariant-loop-place : goal.invariant-loop-place
invariant-loop-place l = (l.place ≤ length l.other) × (length l.one ≡ length l.other) × (bytes_eq l.one l.other ≡ bytes_eq (drop l.place l.one) (drop l.place l.other))

abbrev pub decreases-loop-place : goal.decreases-loop-place
decreases-loop-place l = length l.other - l.place
