-- The trace is what is on the slate.
use Rattle.std.proofs.Common.{◌++◌, ◌∙◌, ℕ, List, ap}
use Rattle.sms_construct.specs.declared.trace.Trace.{Trace}
use Rattle.sms_script.specs.TraceText.{trace_lines}
use Rattle.sms_outcomes.proofs.members.lines_of.Goals as goal

pub returns : goal.returns
returns c =
    c.in_ok-push_trace.ensures
    ∙ ap (λ (lines : List (List ℕ)). lines ++ trace_lines c.in_ok-trace.trace) c.new-lines.ensures
    ∙ ap (λ (trace : Trace). trace_lines trace) c.in_ok-trace.ensures
