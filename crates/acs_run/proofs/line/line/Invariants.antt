use Rattle.std.proofs.Common.{◌≡◌, ◌≤◌, ◌++◌, drop, length, take}
use Rattle.acs_code.specs.Machine.{parts_line, parts_text}
use Rattle.acs_run.proofs.line.line.Given as goal

abbrev pub invariant-loop-part : goal.invariant-loop-part
invariant-loop-part l = (length l.draft ≤ 110) × (take 110 (l.draft ++ parts_text (drop l.part-index l.parts) l.input l.values) ≡ parts_line l.parts l.input l.values)
