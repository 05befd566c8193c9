-- What contracts see of a door, and what becomes of the links that it gives.
use Rattle.std.specs.Prelude.{ℕ, ◌≡◌, Bool, List, ◌++◌, Option, None, Some, MatchOption}

-- how often a door was asked for a link, where it tells that, how many links it gave, whether no further one comes, how
-- often it failed, how many of the links that came back had failed, and, where they are told, the links that are left
-- and those that came back
pub record DoorMoment (C : Type 0) : Type 0 where
  pub asked : Option ℕ
  pub given : ℕ
  pub ended : Bool
  pub door_faults : ℕ
  pub link_faults : ℕ
  pub waiting : Option (List C)
  pub back : Option (List C)

module _ {C : Type 0} where
  -- these links were given, in this order, of those that were left
  abbrev pub WereGiven : Option (List C) → Option (List C) → List C → Type 0
  WereGiven waiting waiting' links =
      MatchOption waiting (waiting' ≡ None) (λ before.
      (rest : List C) × (before ≡ links ++ rest) × (waiting' ≡ Some rest))

  -- these links came back, in this order, behind the others
  abbrev pub CameBack : Option (List C) → Option (List C) → List C → Type 0
  CameBack back back' links = MatchOption back (back' ≡ None) (λ before. back' ≡ Some (before ++ links))
