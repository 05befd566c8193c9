use Rattle.std.proofs.Common.{◌≡◌, ◌++◌, take}
use Rattle.std.specs.Prelude.{flat_map}
use Rattle.sms_script.specs.TraceText.{written_by}
use Rattle.sms_script.proofs.trace_text.push_written.Given as goal

-- the lines of the kind so far
abbrev pub invariant-loop-line : goal.invariant-loop-line
invariant-loop-line l = l.lines ≡ l.initial.lines ++ flat_map (written_by l.kind) (take l.line-index l.written)
