use Rattle.acs_parse.proofs.RoutineLemmas.{one_fault, no_fault, tree_or_fault}
use Rattle.acs_parse.proofs.laws.tree_or_fault.Goals as goal

pub returns : goal.returns
returns c = record {
  one_fault = λ ts one two a b. one_fault a b;
  never_both = λ ts tree err a b. no_fault a b;
  either = tree_or_fault;
}
