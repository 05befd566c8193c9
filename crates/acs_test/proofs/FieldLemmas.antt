-- The fields of a record, one after the other.
use Rattle.std.proofs.Common.{◌≡◌, ◌<◌, ◌+◌, ℕ, zero, suc, List, [], ◌∷◌, ◌++◌, None, Some, length, take, refl, ap}
use Rattle.std.proofs.Common.{add-one, arith}
use Rattle.std.specs.Prelude.{map, option_map, slice_get}
use Rattle.std.specs.Borrow.{Bor}
use Rattle.csv.specs.Records.{field_at}

-- one field more
take_field : (fields : List (List ℕ)) (at : ℕ) (field : List ℕ) → field_at fields at ≡ Some field → take (suc at) fields ≡ take at fields ++ field ∷ []
unfolding field_at
take_field [] at field found = cc
take_field (first ∷ fields) zero field found = cc
take_field (first ∷ fields) (suc at) field found = ap (λ (others : List (List ℕ)). first ∷ others) (take_field fields at field found)

pub next_field : (fields : List (List ℕ)) (at : ℕ) (field : List ℕ) → field_at fields at ≡ Some field → take (at + 1) fields ≡ take at fields ++ field ∷ []
next_field fields at field found = rw add-one (take_field fields at field found)

-- there is a field at each place
pub field_there : (fields : List (List ℕ)) (at : ℕ) → at < length fields → field_at fields at ≡ None → ⊥
unfolding field_at
field_there [] at less none = absurd (omega arith)
field_there (first ∷ fields) zero less none = cc
field_there (first ∷ fields) (suc at) less none = field_there fields at (omega arith) none

-- what is behind the reference at a place
pub field_seen : (fields : List (Bor (List ℕ))) (at : ℕ) → slice_get (map (λ (field : Bor (List ℕ)). field.now) fields) at ≡ option_map (λ (field : Bor (List ℕ)). field.now) (slice_get fields at)
field_seen [] at = refl
field_seen (field ∷ fields) zero = refl
field_seen (field ∷ fields) (suc at) = field_seen fields at
