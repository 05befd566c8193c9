use Rattle.std.proofs.Common.{◌≡◌, ◌++◌, drop, map}
use Rattle.acs_code.specs.Fields.{left_of}
use Rattle.acs_code.proofs.lefts.lefts.Given as goal

abbrev pub invariant-loop-instr : goal.invariant-loop-instr
invariant-loop-instr l = l.lefts ++ map left_of (drop l.instr-index l.instrs) ≡ map left_of l.instrs
