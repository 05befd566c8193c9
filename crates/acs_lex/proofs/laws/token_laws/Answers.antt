use Rattle.acs_lex.proofs.PlaceLemmas.{cut_in_order, cut_of_tokens}
use Rattle.acs_lex.proofs.laws.token_laws.Goals as goal

pub returns-clause-order : goal.returns-clause-order
returns-clause-order c = λ text tokens d. cut_in_order text tokens d

pub returns-clause-each : goal.returns-clause-each
returns-clause-each c = λ text tokens d. cut_of_tokens text tokens d
