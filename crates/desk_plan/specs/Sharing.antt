-- Items that are shared out among workers, and the entries that their answers make.
use Rattle.std.specs.Prelude.{ℕ, ◌==◌, ◌+◌, List, [], ◌∷◌, ◌++◌, if◌then◌else◌}

-- those of a list beside which this number stands: the items that the plan gives to a worker, or the entries that bear
-- its number
abbrev pub those : {A : Type 0} → ℕ → List ℕ → List A → List A
those k [] xs = []
those k (p ∷ ps) [] = []
those k (p ∷ ps) (x ∷ xs) = if p == k then x ∷ those k ps xs else those k ps xs

-- the entries that answers to items make, in their order
abbrev pub made_of : {I A E : Type 0} → (I → A → List E) → List A → List I → List E
made_of make [] items = []
made_of make (a ∷ answers) [] = []
made_of make (a ∷ answers) (i ∷ items) = make i a ++ made_of make answers items

-- how often the plan names this worker
abbrev pub times : ℕ → List ℕ → ℕ
times k [] = 0
times k (p ∷ ps) = (if p == k then 1 else 0) + times k ps
