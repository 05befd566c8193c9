use Rattle.std.proofs.Common.{◌≡◌, ◌+◌, drop}
use Rattle.desk_law.specs.Candidates.{tier_among}
use Rattle.sms_volumes.proofs.asked.Asked.tier.Given as goal

-- the group isn't among those that were gone over
abbrev pub invariant-loop-group : goal.invariant-loop-group
invariant-loop-group l = record {
  counted : l.tier ≡ l.group-index;
  behind : tier_among l.self.tiers.now l.name ≡ l.tier + tier_among (drop l.group-index l.self.tiers.now) l.name;
}
