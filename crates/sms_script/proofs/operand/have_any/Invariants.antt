use Rattle.std.proofs.Common.{◌≡◌, length, map}
use Rattle.sms_script.specs.Operands.{have_any}
use Rattle.sms_script.proofs.operand.have_any.Given as goal

abbrev pub invariant-loop-words : goal.invariant-loop-words
invariant-loop-words l = have_any (map (λ key. key.now) l.keys) (map (λ word. word.now) l.words) ≡ have_any (map (λ key. key.now) l.keys) (map (λ word. word.now) l.initial.words)

abbrev pub decreases-loop-words : goal.decreases-loop-words
decreases-loop-words l = length l.words
