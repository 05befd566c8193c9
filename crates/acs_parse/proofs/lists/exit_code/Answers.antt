use Rattle.acs_parse.proofs.OperandLemmas.{code_some}
use Rattle.acs_parse.proofs.lists.exit_code.Goals as goal

pub returns : goal.returns
returns c = code_some c.if-not-skip.ensures c.in_ok-expect.ensures c.place-at.ensures c.in_ok-text.ensures c.in_ok-expect-2.ensures
