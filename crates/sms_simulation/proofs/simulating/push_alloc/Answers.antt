use Rattle.std.proofs.Common.{◌≡◌, ◌++◌, ap, ◌∙◌}
use Rattle.acs_tree.specs.Slates.{SlateLines}
use Rattle.acs_tree.specs.declared.values.Values.{Values}
use Rattle.sms_construct.specs.declared.trace.Trace.{Trace}
use Rattle.desk_law.specs.Classification.{classes_of, trace_of}
use Rattle.sms_construct.specs.declared.stop.Stop.{Stop}
use Rattle.sms_simulation.specs.OutcomeText.{classified_text}
use Rattle.sms_simulation.proofs.simulating.push_alloc.Goals as goal

pub returns : goal.returns
returns c =
    let item = c.args.item.now in
    let classes = classes_of c.args.config.now item.request.job c.args.allocation.now in
    let written : c.in_ok-trace.trace ≡ trace_of classes =
    c.in_ok-trace.ensures ∙ ap (λ (slate : SlateLines). record { lines = slate.lines; more = slate.more }) c.classify-classified.ensures.slate in
    let before = c.args.text.now.items in
    c.in_ok-push_classified.ensures
    ∙ ap (λ (stop : Stop). before ++ classified_text item.line item.request.job item.request.number stop c.classify-classified.result.values c.in_ok-trace.trace) c.classify-classified.ensures.stop
    ∙ ap (λ (values : Values). before ++ classified_text item.line item.request.job item.request.number classes.stop values c.in_ok-trace.trace) c.classify-classified.ensures.values
    ∙ ap (λ (trace : Trace). before ++ classified_text item.line item.request.job item.request.number classes.stop classes.values trace) written
