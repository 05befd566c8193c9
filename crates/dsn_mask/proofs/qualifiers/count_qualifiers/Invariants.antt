use Rattle.std.proofs.Common.{◌≡◌, ◌≤◌, ◌+◌, length}
use Rattle.dsn_mask.specs.Qualifiers.{qualifiers_of}
use Rattle.dsn_mask.proofs.qualifiers.count_qualifiers.Given as goal

abbrev pub invariant-walk : goal.invariant-walk
invariant-walk l = (l.count + length (qualifiers_of l.text) ≡ length (qualifiers_of l.bytes) + 1) × (l.count + length l.text ≤ 45)

abbrev pub decreases-walk : goal.decreases-walk
decreases-walk l = length l.text
