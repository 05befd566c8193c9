use Rattle.std.proofs.Common.{subst, sym, Some}
use Rattle.acs_parse.specs.Grammar.{IsIndex}
use Rattle.acs_parse.proofs.OperandLemmas.{index_some}
use Rattle.acs_parse.proofs.lists.index.Goals as goal

pub returns : goal.returns
returns c = subst (λ text. IsIndex c.args.total c.args.rest.now (Some text) c.place-at.result c.expect.new.rest) (sym c.in_ok-index.ensures) (index_some c.if-not-skip.ensures c.place-at.ensures c.in_ok-text.ensures c.in_ok-expect.ensures)
