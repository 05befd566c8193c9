-- The two halves of a link beside each other.
use Rattle.std.specs.Prelude.{ℕ, List, [], ◌∷◌, ◌++◌, Option, None, option_map}

-- a link when a read was made: what was left to read, and what had been taken, where they are told
pub record ReadMoment : Type 0 where
  pub left : Option (List ℕ)
  pub taken : Option (List ℕ)

-- what a call on one half leaves as it was in the other: its bytes, its reads and their moments, where they are told,
-- and its count of faults
pub record Beside : Type 0 where
  pub bytes : Option (List ℕ)
  pub reads : Option ℕ
  pub moments : Option (List ReadMoment)
  pub faults : ℕ

-- there is no other half
abbrev pub no_half : Beside
no_half = record { bytes = None; reads = None; moments = None; faults = 0 }

-- the moments of the reads behind one more, where they are told
abbrev pub one_moment_more : Option (List ReadMoment) → ReadMoment → Option (List ReadMoment)
one_moment_more told moment = option_map (λ moments. moments ++ moment ∷ []) told
