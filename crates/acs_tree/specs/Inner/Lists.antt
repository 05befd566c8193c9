-- Lists in arrays of a fixed size.
use Rattle.std.specs.Prelude.{◌-◌, ℕ, List, [], ◌∷◌, ◌++◌, length, replicate}

-- the list filled up to so many places
abbrev pub filled : ℕ → List ℕ → List (List ℕ) → List (List ℕ)
filled size filler items = items ++ replicate (size - length items) filler

-- what stands in the unused places of an accounting
abbrev pub no_field : List ℕ
no_field = []

-- what stands in the unused places of volumes
abbrev pub no_volume : List ℕ
no_volume = 65 ∷ []
