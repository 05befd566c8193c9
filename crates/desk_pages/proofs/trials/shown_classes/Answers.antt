-- The page is that of the outcome and of the lines.
use Rattle.std.proofs.Common.{◌∙◌, ap}
use Rattle.page_text.specs.AnswerBodies.{classified_body}
use Rattle.sms_simulation.specs.OutcomeText.{outcome_text}
use Rattle.desk_pages.specs.Shown.{showing}
use Rattle.desk_pages.proofs.trials.shown_classes.Goals as goal

pub returns : goal.returns
returns c =
    let outcome = outcome_text c.args.classified.now.stop c.args.classified.now.values in
    c.shown.ensures ∙ ap showing (c.in_ok-body.ensures
    ∙ ap (λ text. classified_body text c.as_slice.result.now) (c.deref.ensures.value ∙ c.in_ok-outcome.ensures)
    ∙ ap (λ lines. classified_body outcome lines) (c.as_slice.ensures ∙ c.in_ok-lines.ensures))
