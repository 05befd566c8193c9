use Rattle.std.proofs.Common.{◌≡◌, ◌++◌, take, map}
use Rattle.std.specs.Prelude.{flat_map}
use Rattle.sms_script.specs.AnswerText.{ended, indented}
use Rattle.sms_script.specs.NameText.{extent_text}
use Rattle.sms_script.proofs.granted_text.push_extent_lines.Given as goal

-- the lines of the extents so far
abbrev pub invariant-loop-extent : goal.invariant-loop-extent
invariant-loop-extent l = l.text.items ≡ l.initial.text.items ++ flat_map ended (map indented (map extent_text (take l.extent-index l.extents)))
