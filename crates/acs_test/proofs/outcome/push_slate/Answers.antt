use Rattle.std.proofs.Common.{◌++◌, ap, ◌∙◌}
use Rattle.std.specs.Prelude.{flat_map}
use Rattle.sms_construct.specs.declared.trace.Trace.{Trace}
use Rattle.sms_script.specs.TraceText.{trace_lines}
use Rattle.sms_simulation.specs.OutcomeText.{behind}
use Rattle.acs_test.proofs.outcome.push_slate.Goals as goal

pub returns : goal.returns
returns c =
    c.in_ok-push_written.ensures
    ∙ ap (λ (trace : Trace). c.args.text.now.items ++ flat_map (behind c.args.front.now) (trace_lines trace)) c.in_ok-trace.ensures
