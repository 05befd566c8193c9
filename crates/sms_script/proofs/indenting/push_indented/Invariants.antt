use Rattle.std.proofs.Common.{◌≡◌, ◌++◌, take, map}
use Rattle.sms_script.specs.AnswerText.{indented}
use Rattle.sms_script.proofs.indenting.push_indented.Given as goal

-- the lines so far
abbrev pub invariant-loop-text : goal.invariant-loop-text
invariant-loop-text l = l.lines ≡ l.initial.lines ++ map indented (take l.text-index l.texts)
