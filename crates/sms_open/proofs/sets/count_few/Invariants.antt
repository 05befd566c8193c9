use Rattle.std.proofs.Common.{◌≡◌, ◌≤◌, ℕ, List, length, take}
use Rattle.desk_law.specs.Extents.{pieces_on}
use Rattle.sms_open.specs.Inner.Targets.{number_on}
use Rattle.sms_open.proofs.sets.count_few.Given as goal

-- the extents on each volume among those that were gone over, at most 16
abbrev pub invariant-loop-extent : goal.invariant-loop-extent
invariant-loop-extent l = ((volser : List ℕ) → number_on volser l.counts ≡ length (pieces_on volser (take l.extent-index l.extents))) × ((volser : List ℕ) → number_on volser l.counts ≤ 16)
