use Rattle.std.proofs.Common.{◌≡◌, ◌++◌, take, map}
use Rattle.sms_script.specs.AnswerText.{indented}
use Rattle.sms_script.specs.NameText.{extent_text}
use Rattle.sms_script.proofs.further_text.push_extents.Given as goal

-- the lines of the extents so far
abbrev pub invariant-loop-extent : goal.invariant-loop-extent
invariant-loop-extent l = l.lines ≡ l.initial.lines ++ map indented (map extent_text (take l.extent-index l.extents))
