use Rattle.std.proofs.Common.{◌≡◌, length, map}
use Rattle.std.specs.List.{list_all}
use Rattle.sms_script.specs.Operands.{is_once}
use Rattle.sms_script.proofs.operand.are_once.Given as goal

abbrev pub invariant-loop-keys : goal.invariant-loop-keys
invariant-loop-keys l = list_all (is_once (map (λ word. word.now) l.words)) (map (λ key. key.now) l.keys) ≡ list_all (is_once (map (λ word. word.now) l.words)) (map (λ key. key.now) l.initial.keys)

abbrev pub decreases-loop-keys : goal.decreases-loop-keys
decreases-loop-keys l = length l.keys
