use Rattle.std.proofs.Common.{◌≡◌, ◌+◌, drop}
use Rattle.desk_law.specs.Candidates.{tier_among}
use Rattle.volume_reasons.proofs.viewing.tier_among.Given as goal

-- the group isn't among those that were gone over
abbrev pub invariant-loop-group : goal.invariant-loop-group
invariant-loop-group l = record {
  counted : l.tier ≡ l.group-index;
  behind : tier_among l.tiers l.name ≡ l.tier + tier_among (drop l.group-index l.tiers) l.name;
}
