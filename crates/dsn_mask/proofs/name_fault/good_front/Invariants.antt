use Rattle.std.proofs.Common.{◌≡◌, ℕ, ◌<◌, ◌≤◌, true, get_or}
use Rattle.dsn_mask.specs.DataSetName.{is_qualifier_byte}
use Rattle.dsn_mask.proofs.name_fault.good_front.Given as goal

abbrev pub invariant-loop-at : goal.invariant-loop-at
invariant-loop-at l = (l.at ≤ 8) × ((k : ℕ) → k < l.at → is_qualifier_byte (get_or l.bytes k 0) ≡ true)
