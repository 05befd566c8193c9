use Rattle.acs_parse.proofs.ExactLemmas.{limited_front}
use Rattle.acs_parse.proofs.laws.limited_front.Goals as goal

pub returns : goal.returns
returns c = limited_front
