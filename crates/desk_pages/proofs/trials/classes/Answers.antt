-- The classification is that of the law.
use Rattle.std.proofs.Common.{◌≡◌, ap, ◌∙◌}
use Rattle.std.proofs.lemmas.Result.{IfOk-weaker}
use Rattle.acs_tree.specs.Slates.{SlateLines}
use Rattle.acs_tree.specs.declared.values.Values.{Values}
use Rattle.sms_construct.specs.declared.stop.Stop.{Stop}
use Rattle.sms_construct.specs.declared.trace.Trace.{Trace}
use Rattle.sms_script.specs.TraceText.{trace_lines}
use Rattle.sms_simulation.specs.OutcomeText.{outcome_text}
use Rattle.desk_law.specs.Classification.{classes_of, trace_of}
use Rattle.page_text.specs.AnswerBodies.{classified_body}
use Rattle.desk_pages.specs.Shown.{showing}
use Rattle.desk_pages.proofs.trials.classes.Goals as goal

pub returns : goal.returns
returns c =
    let classes = classes_of c.args.config.now c.args.job.now c.args.allocation.now in
    let found = c.classify-classified in
    let written : c.in_ok-trace.trace ≡ trace_of classes =
    c.in_ok-trace.ensures ∙ ap (λ (slate : SlateLines). record { lines = slate.lines; more = slate.more }) found.ensures.slate in
    IfOk-weaker c.shown_classes.result _ _ (λ page is.
    is ∙ ap (λ (stop : Stop). showing (classified_body (outcome_text stop found.result.values) (trace_lines c.in_ok-trace.trace))) found.ensures.stop
    ∙ ap (λ (values : Values). showing (classified_body (outcome_text classes.stop values) (trace_lines c.in_ok-trace.trace))) found.ensures.values
    ∙ ap (λ (trace : Trace). showing (classified_body (outcome_text classes.stop classes.values) (trace_lines trace))) written) c.shown_classes.ensures
