use Rattle.std.proofs.Common.{subst}
use Rattle.sms_construct.specs.Configuration.{IsConfiguration}
use Rattle.deck_meaning.proofs.config.Config.deck.Goals as goal

pub returns-clause-form : goal.returns-clause-form
returns-clause-form c = subst IsConfiguration c.self.view_is c.self.invariant
