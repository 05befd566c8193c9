use Rattle.deck_meaning.proofs.ConfigurationLemmas.{configured}
use Rattle.deck_meaning.proofs.laws.lawful_configurations.Goals as goal

pub returns : goal.returns
returns c = λ bytes config a. configured a
