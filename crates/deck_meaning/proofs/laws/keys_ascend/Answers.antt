use Rattle.deck_meaning.proofs.SortedLemmas.{document_ascends}
use Rattle.deck_meaning.proofs.laws.keys_ascend.Goals as goal

pub returns : goal.returns
returns c = λ bytes top m. document_ascends bytes top m.document
