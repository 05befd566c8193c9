use Rattle.std.proofs.Common.{◌≡◌, ◌≤◌, ◌+◌, length}
use Rattle.desk_common.specs.Limits.{most_commands}
use Rattle.sms_script.specs.Script.{script_of}
use Rattle.sms_script.specs.Inner.Reading.{after, script_behind}
use Rattle.sms_script.proofs.reading.read_script.Given as goal

-- the phases and the items so far, and the script of the rest
abbrev pub invariant-loop-rest : goal.invariant-loop-rest
invariant-loop-rest l = record {
  script : after l.phases l.phase (script_behind l.passed l.rest) ≡ script_of l.bytes;
  few : l.passed.lines + length l.rest ≤ length l.bytes;
  commands : l.passed.commands ≤ most_commands;
}

abbrev pub decreases-loop-rest : goal.decreases-loop-rest
decreases-loop-rest l = length l.rest
