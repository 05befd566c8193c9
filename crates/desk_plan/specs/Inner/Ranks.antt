-- The ranks of workers, one after the other.
use Rattle.std.specs.Prelude.{ℕ, zero, suc, List, [], ◌∷◌, ◌++◌}
use Rattle.desk_plan.specs.Plan.{rank_in}

-- the ranks of the first so many workers
abbrev pub first_ranks : List ℕ → ℕ → List ℕ
first_ranks plan zero = []
first_ranks plan (suc k) = first_ranks plan k ++ rank_in plan k ∷ []
