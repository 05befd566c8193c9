-- Lists of names, none twice.
use Rattle.std.specs.Prelude.{◌≤◌, ◌-◌, ℕ, List, [], ◌∷◌, ◌++◌, Contains, length, replicate}
use Rattle.desk_common.specs.Limits.{most_groups_set}

-- no name stands again behind itself
abbrev pub NoneTwice : List (List ℕ) → Type 0
NoneTwice [] = Unit {0}
NoneTwice (name ∷ names) = (Contains names name → ⊥) × NoneTwice names

-- at most as many names as one SET may name groups, none twice
pub record AreFewAndOnce (names : List (List ℕ)) : Type 0 where
  pub few : length names ≤ most_groups_set
  pub once : NoneTwice names

-- the name A
abbrev pub filler : List ℕ
filler = 65 ∷ []

-- the list, filled up to as many places as one SET may name groups
abbrev pub filled : List (List ℕ) → List (List ℕ)
filled names = names ++ replicate (most_groups_set - length names) filler
