use Rattle.std.proofs.Common.{◌≡◌, ◌++◌, take, drop, map}
use Rattle.acs_code.specs.Inner.Upward.{placed}
use Rattle.acs_code.proofs.upward.tell_from_front.Given as goal

-- the instructions so far tell their places from the front, those behind are as they were
abbrev pub invariant-loop-instr : goal.invariant-loop-instr
invariant-loop-instr l = l.instrs ≡ map (placed l.count) (take l.instr-index l.initial.instrs) ++ drop l.instr-index l.initial.instrs
