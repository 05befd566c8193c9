use Rattle.std.proofs.Common.{◌≡◌, ◌+◌, length}
use Rattle.std.specs.List.{slice_get}
use Rattle.dsn_mask.specs.Qualifiers.{qualifiers_of}
use Rattle.dsn_mask.proofs.qualifiers.qualifier_at.Given as goal

abbrev pub invariant-walk : goal.invariant-walk
invariant-walk l = (slice_get (qualifiers_of l.text) l.left ≡ slice_get (qualifiers_of l.bytes) l.place) × (length (qualifiers_of l.text) + l.place ≡ length (qualifiers_of l.bytes) + l.left)

abbrev pub decreases-walk : goal.decreases-walk
decreases-walk l = l.left
