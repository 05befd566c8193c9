-- How many workers the words ask for.
use Rattle.std.proofs.Common.{◌≡◌, List, ℕ, ap}
use Rattle.std.specs.Prelude.{Some}
use Rattle.desk_words.specs.Serving.{serving_in}
use Rattle.desk_words.specs.declared.served.ServeWords.{ServeWords}

-- what words ask for is one thing
pub same_workers : (words : List (List ℕ)) (asked other : ServeWords) → serving_in words ≡ Some asked → serving_in words ≡ Some other → other.workers ≡ asked.workers
same_workers words asked other is this = let same : other ≡ asked = cc in ap (λ (found : ServeWords). found.workers) same
