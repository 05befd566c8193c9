use Rattle.std.proofs.Common.{◌≡◌, ◌≤◌, ◌-◌, bytes_eq, drop}
use Rattle.dsn_mask.proofs.byte_words.are_equal.Given as goal

-- what is left of the two decides
abbrev pub invariant-loop-place : goal.invariant-loop-place
invariant-loop-place g l = (l.place ≤ g.row.N) × (bytes_eq l.a l.b ≡ bytes_eq (drop l.place l.a) (drop l.place l.b))

abbrev pub decreases-loop-place : goal.decreases-loop-place
decreases-loop-place g l = g.row.N - l.place
