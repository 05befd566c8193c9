use Rattle.std.proofs.Common.{◌≡◌, length, map}
use Rattle.std.specs.List.{list_any}
use Rattle.sms_script.specs.Operands.{has_key}
use Rattle.sms_script.proofs.operand.has_any.Given as goal

abbrev pub invariant-loop-keys : goal.invariant-loop-keys
invariant-loop-keys l = list_any (has_key l.word) (map (λ key. key.now) l.keys) ≡ list_any (has_key l.word) (map (λ key. key.now) l.initial.keys)

abbrev pub decreases-loop-keys : goal.decreases-loop-keys
decreases-loop-keys l = length l.keys
