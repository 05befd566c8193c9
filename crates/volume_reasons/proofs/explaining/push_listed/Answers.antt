use Rattle.std.proofs.Common.{◌++◌, ◌∙◌, ℕ, List, ap, ap₂}
use Rattle.volume_reasons.specs.VolumesText.{views_text}
use Rattle.volume_reasons.proofs.explaining.push_listed.Goals as goal

pub returns : goal.returns
returns c = λ s lawful are.
    c.in_ok-push_views.ensures ∙ ap (λ (l : List ℕ). c.args.text.now.items ++ l)
    (ap₂ views_text (c.deref.ensures.value ∙ c.in_ok-views.ensures s lawful are) c.want_of.ensures)
