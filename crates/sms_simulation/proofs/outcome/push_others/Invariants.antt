use Rattle.std.proofs.Common.{◌≡◌, ◌++◌, ◌∷◌, take}
use Rattle.std.specs.Prelude.{flat_map}
use Rattle.desk_common.specs.Bytes.{comma}
use Rattle.sms_simulation.proofs.outcome.push_others.Given as goal

-- the names that were gone over
abbrev pub invariant-loop-group : goal.invariant-loop-group
invariant-loop-group l = l.text.items ≡ l.initial.text.items ++ flat_map (λ group. comma ∷ group) (take l.group-index l.groups)
