use Rattle.std.proofs.Common.{◌≡◌, length, map}
use Rattle.sms_script.specs.Operands.{values_of}
use Rattle.sms_script.proofs.operand.first_value.Given as goal

abbrev pub invariant-loop-rest : goal.invariant-loop-rest
invariant-loop-rest l = values_of l.key (map (λ word. word.now) l.rest) ≡ values_of l.key (map (λ word. word.now) l.words)

abbrev pub decreases-loop-rest : goal.decreases-loop-rest
decreases-loop-rest l = length l.rest
