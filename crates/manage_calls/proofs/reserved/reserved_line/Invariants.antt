use Rattle.std.proofs.Common.{◌≡◌, ◌≤◌, ◌+◌, length}
use Rattle.sms_script.specs.Lines.{lines_of}
use Rattle.manage_calls.specs.Reserved.{reserved_from, reserved_line}
use Rattle.manage_calls.proofs.reserved.reserved_line.Given as goal

-- the first reserved line of the rest is that of the script
abbrev pub invariant-loop-rest : goal.invariant-loop-rest
invariant-loop-rest l = record {
  first : reserved_from l.in_block (l.line + 1) (lines_of l.rest) ≡ reserved_line l.bytes;
  few : l.line + length l.rest ≤ length l.bytes;
}

abbrev pub decreases-loop-rest : goal.decreases-loop-rest
decreases-loop-rest l = length l.rest
