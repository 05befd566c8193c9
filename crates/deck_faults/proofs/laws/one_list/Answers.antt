use Rattle.deck_faults.proofs.LawLemmas.{same_list, some_list}
use Rattle.deck_faults.proofs.laws.one_list.Goals as goal

pub returns : goal.returns
returns c = record {
  some = some_list;
  one = λ bytes one other a b. same_list a b;
}
