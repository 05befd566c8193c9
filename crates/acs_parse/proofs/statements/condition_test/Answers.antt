use Rattle.acs_parse.proofs.SelectLemmas.{holds_at}
use Rattle.acs_parse.proofs.statements.condition_test.Goals as goal

pub returns : goal.returns
returns c = holds_at c.in_ok-expect.ensures c.in_ok-cond.ensures
