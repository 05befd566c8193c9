use Rattle.std.proofs.Common.{◌≡◌, ◌≤◌, ◌-◌, drop, nat_cmp}
use Rattle.std.specs.Cmp.Lexicographic.{slice_cmp}
use Rattle.dsn_mask.proofs.byte_words.order.Given as goal

abbrev pub invariant-loop-place : goal.invariant-loop-place
invariant-loop-place g l = (l.place ≤ g.row.N) × (slice_cmp nat_cmp l.a l.b ≡ slice_cmp nat_cmp (drop l.place l.a) (drop l.place l.b))

abbrev pub decreases-loop-place : goal.decreases-loop-place
decreases-loop-place g l = g.row.N - l.place
