use Rattle.deck_meaning.proofs.EitherLemmas.{either}
use Rattle.deck_meaning.proofs.ReadingLemmas.{never_both, one_fault, one_configuration}
use Rattle.deck_meaning.proofs.laws.one_reading.Goals as goal

pub returns : goal.returns
returns c = record {
  one_configuration = λ bytes one other a b. one_configuration a b;
  one_fault = λ bytes one other a b. one_fault a b;
  never_both = λ bytes config fault a b. never_both a b;
  either = either;
}
