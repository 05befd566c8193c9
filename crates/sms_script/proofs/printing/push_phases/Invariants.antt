use Rattle.std.proofs.Common.{◌≡◌, ◌++◌, drop, length}
use Rattle.sms_script.specs.AnswerText.{items_text}
use Rattle.sms_script.specs.Script.{items_of}
use Rattle.sms_script.proofs.printing.push_phases.Given as goal

-- the text so far, and that of the phases that are left
abbrev pub invariant-loop-phase : goal.invariant-loop-phase
invariant-loop-phase l = record {
  text : l.text.items ++ items_text (items_of (drop l.phase-index l.phases)) l.rest ≡ l.initial.text.items ++ items_text (items_of l.phases) l.answers;
  each : length l.rest ≡ length (items_of (drop l.phase-index l.phases));
}
