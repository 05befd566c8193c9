use Rattle.std.proofs.Common.{◌≡◌, drop, map}
use Rattle.acs_lint.specs.Uses.{may_be_set}
use Rattle.acs_lint.proofs.sets.may_be_set.Given as goal

-- none of the values that were gone over may be the text
abbrev pub invariant-loop-value : goal.invariant-loop-value
invariant-loop-value l = may_be_set l.text (map (λ value. value.now) (drop l.value-index l.values)) ≡ may_be_set l.text (map (λ value. value.now) l.values)
