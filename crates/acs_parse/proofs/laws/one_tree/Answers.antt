use Rattle.acs_parse.proofs.OneTreeLemmas.{one_tree}
use Rattle.acs_parse.proofs.laws.one_tree.Goals as goal

pub returns : goal.returns
returns c = λ may ts one two a b. one_tree a b
