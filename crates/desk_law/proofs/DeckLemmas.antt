-- What the law needs of decks.
use Rattle.std.proofs.Common.{◌≡◌, ℕ, List}
use Rattle.sms_construct.specs.Configuration.{Configuration, IsConfiguration}
use Rattle.deck_meaning.specs.Reading.{Configures}
use Rattle.deck_meaning.proofs.ConfigurationLemmas.{configured}
use Rattle.deck_meaning.proofs.ReadingLemmas.{one_configuration}

pub configures-is : (deck : List ℕ) (config : Configuration) → Configures deck config → IsConfiguration config
configures-is deck config configures = configured configures

pub one-configuration : (deck : List ℕ) (config other : Configuration) → Configures deck config → Configures deck other → config ≡ other
one-configuration deck config other one two = one_configuration one two
