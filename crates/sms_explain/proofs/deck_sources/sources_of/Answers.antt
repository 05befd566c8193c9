use Rattle.std.proofs.Common.{ℕ, List, subst, ◌∙◌}
use Rattle.sms_explain.specs.DeckTexts.{AreSources}
use Rattle.sms_explain.proofs.deck_sources.sources_of.Goals as goal

pub returns : goal.returns
returns c = subst (λ (deck : List ℕ). AreSources deck c.in_ok-sources.sources) (c.as_slice.ensures ∙ c.get.ensures) c.in_ok-sources.ensures
