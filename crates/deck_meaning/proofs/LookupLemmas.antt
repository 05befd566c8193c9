-- Names looked up in lists of constructs.
use Rattle.std.proofs.Common.{◌≡◌, ℕ, ◌||◌, List, [], ◌∷◌, map, bytes_eq, refl, ap}
use Rattle.std.specs.List.{list_any}

pub any_named : {X : Type 0} (name_of : X → List ℕ) (name : List ℕ) (items : List X) → list_any (bytes_eq name) (map name_of items) ≡ list_any (λ item. bytes_eq name (name_of item)) items
any_named name_of name [] = refl
any_named name_of name (item ∷ items) = ap (λ b. bytes_eq name (name_of item) || b) (any_named name_of name items)
