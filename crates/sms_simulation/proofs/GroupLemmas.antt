-- Names with commas between.
use Rattle.std.proofs.Common.{◌≡◌, ℕ, List, [], ◌∷◌, ◌++◌, sym, ap, append-nil}
use Rattle.std.specs.Prelude.{flat_map}
use Rattle.desk_common.specs.Bytes.{comma}
use Rattle.acs_tree.specs.Writing.{listed}

-- the first name, and each other with a comma before it
pub groups_parts : (first : List ℕ) (others : List (List ℕ)) → listed (first ∷ others) ≡ first ++ flat_map (λ group. comma ∷ group) others
groups_parts first [] = sym (append-nil first)
groups_parts first (second ∷ others) = ap (λ (text : List ℕ). first ++ comma ∷ text) (groups_parts second others)
