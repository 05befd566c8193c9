-- How often keys stand in a list, by an order of the keys.
use Rattle.std.specs.Prelude.{ℕ, ◌≡◌, ◌+◌, ◌≤◌, List, [], ◌∷◌, Option, None, Some, if◌then◌else◌}
use Rattle.std.specs.declared.cmp.Ordering.{Ordering}
use Rattle.std.specs.Ordering.{is_eq}

-- how often the key stands among these
abbrev pub times_key : {K : Type 0} → (K → K → Ordering) → K → List K → ℕ
times_key R key [] = 0
times_key R key (other ∷ keys) = (if is_eq (R key other) then 1 else 0) + times_key R key keys

-- no key stands twice
abbrev pub AreApart : {K : Type 0} → (K → K → Ordering) → List K → Type 0
AreApart {K} R keys = (key : K) → times_key R key keys ≤ 1

-- each key stands as often among the found ones as among the wanted ones
abbrev pub AreAsOften : {K : Type 0} → (K → K → Ordering) → List K → List K → Type 0
AreAsOften {K} R wanted found = (key : K) → times_key R key found ≡ times_key R key wanted

-- how many were found
abbrev pub times_found : {V : Type 0} → Option V → ℕ
times_found None = 0
times_found (Some value) = 1
