use Rattle.std.proofs.Common.{◌≡◌, length, map}
use Rattle.std.specs.List.{list_all}
use Rattle.sms_script.specs.Operands.{is_operand}
use Rattle.sms_script.proofs.operand.are_known.Given as goal

abbrev pub invariant-loop-words : goal.invariant-loop-words
invariant-loop-words l = list_all is_operand (map (λ word. word.now) l.words) ≡ list_all is_operand (map (λ word. word.now) l.initial.words)

abbrev pub decreases-loop-words : goal.decreases-loop-words
decreases-loop-words l = length l.words
