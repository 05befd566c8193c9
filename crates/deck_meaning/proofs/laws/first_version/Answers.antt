use Rattle.deck_meaning.proofs.VersionLemmas.{no_tiers}
use Rattle.deck_meaning.proofs.laws.first_version.Goals as goal

pub returns : goal.returns
returns c = λ bytes config a e. no_tiers a e
