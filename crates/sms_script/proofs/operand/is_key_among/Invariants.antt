use Rattle.std.proofs.Common.{◌≡◌, length, map}
use Rattle.std.specs.List.{list_any}
use Rattle.sms_script.specs.Operands.{is_key_of}
use Rattle.sms_script.proofs.operand.is_key_among.Given as goal

abbrev pub invariant-loop-keys : goal.invariant-loop-keys
invariant-loop-keys l = list_any (is_key_of l.name) (map (λ key. key.now) l.keys) ≡ list_any (is_key_of l.name) (map (λ key. key.now) l.initial.keys)

abbrev pub decreases-loop-keys : goal.decreases-loop-keys
decreases-loop-keys l = length l.keys
