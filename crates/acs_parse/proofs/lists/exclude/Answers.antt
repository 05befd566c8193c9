use Rattle.acs_parse.proofs.OperandLemmas.{exclude_some}
use Rattle.acs_parse.proofs.lists.exclude.Goals as goal

pub returns : goal.returns
returns c = exclude_some c.if-not-skip.ensures c.in_ok-list.ensures
