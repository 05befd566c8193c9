-- Workers that have an item.
use Rattle.std.proofs.Common.{inl, inr, ◌≡◌, ℕ, zero, suc, ◌+◌, ◌<◌, ◌≤◌, ◌==◌, Bool, true, false, List, [], ◌∷◌, ◌++◌}
use Rattle.std.proofs.Common.{length, length-append, map, get_or, max, nat_lt, ltb-true, ltb-false, refl, sym, ap, ◌∙◌, arith, All}
use Rattle.std.proofs.Common.{if◌then◌else◌}
use Rattle.std.specs.List.{list_any}
use Rattle.std.proofs.lemmas.Bool.{cases_Bool}
use Rattle.desk_plan.specs.Plan.{at_work, rank_in}
use Rattle.desk_plan.specs.Inner.Ranks.{first_ranks}

pub one-at-most : (b : Bool) → (if b then 1 else 0) ≤ 1
one-at-most true = omega arith
one-at-most false = omega arith

-- no more are at work than there are
pub work-few : (plan : List ℕ) (k : ℕ) → at_work plan k ≤ k
work-few plan zero = omega arith
work-few plan (suc k) = elim (cases_Bool (list_any (λ worker. worker == k) plan)) [
  | inl is ↦ rw is (omega (arith, work-few plan k))
  | inr not ↦ rw not (omega (arith, work-few plan k))
]

work-step : (plan : List ℕ) (n : ℕ) → at_work plan n ≤ at_work plan (suc n)
work-step plan n = elim (cases_Bool (list_any (λ worker. worker == n) plan)) [
  | inl is ↦ rw is (omega arith)
  | inr not ↦ rw not (omega arith)
]

grows-at : (plan : List ℕ) (k n : ℕ) → k ≤ suc n → (b : Bool) → nat_lt k (suc n) ≡ b → (k ≤ n → at_work plan k ≤ at_work plan n) → at_work plan k ≤ at_work plan (suc n)
grows-at plan k n less true is rest =
    let below : k < suc n = ltb-true k (suc n) is in
    omega (arith, rest (omega (arith, below)), work-step plan n)
grows-at plan k n less false is rest =
    let same : k ≡ suc n = omega (arith, less, ltb-false k (suc n) is) in
    omega (arith, ap (at_work plan) same)

-- of more workers no fewer are
work-grows : (plan : List ℕ) (k n : ℕ) → k ≤ n → at_work plan k ≤ at_work plan n
work-grows plan k zero less = let same : k ≡ zero = omega (arith, less) in omega (arith, ap (at_work plan) same)
work-grows plan k (suc n) less = grows-at plan k n less (nat_lt k (suc n)) refl (λ below. work-grows plan k n below)

-- a rank is one of so many
pub rank-below : (plan : List ℕ) (k workers : ℕ) → k < workers → rank_in plan k < max 1 (at_work plan workers)
rank-below plan k workers less = elim (cases_Bool (list_any (λ other. other == k) plan)) [
  | inl is ↦
      let step : at_work plan (suc k) ≡ at_work plan k + 1 = rw is refl in
      rw is (omega (arith, step, work-grows plan (suc k) workers (omega (arith, less))))
  | inr not ↦ rw not (omega arith)
]

-- what holds of all ranks
pub mapped-alike : {X Y : Type 0} (f h : X → Y) (P : X → Type 0) (xs : List X) → ((x : X) → P x → f x ≡ h x) → All P xs → map f xs ≡ map h xs
mapped-alike f h P [] same all = refl
mapped-alike f h P (x ∷ xs) same all =
    let here = same x (all 0 x (omega arith)) in
    let rest = mapped-alike f h P xs same (λ i d less. all (suc i) d (omega (arith, less))) in
    (λ i. here i ∷ rest i)

front-at : {X : Type 0} (xs ys : List X) (k : ℕ) (d : X) → k < length xs → get_or (xs ++ ys) k d ≡ get_or xs k d
front-at [] ys k d less = absurd (omega (arith, less))
front-at (x ∷ xs) ys zero d less = refl
front-at (x ∷ xs) ys (suc k) d less = front-at xs ys k d (omega (arith, less))

last-at : {X : Type 0} (xs : List X) (x d : X) → get_or (xs ++ x ∷ []) (length xs) d ≡ x
last-at [] x d = refl
last-at (y ∷ xs) x d = last-at xs x d

-- so many workers have so many ranks
pub ranks-long : (plan : List ℕ) (n : ℕ) → length (first_ranks plan n) ≡ n
ranks-long plan zero = refl
ranks-long plan (suc n) = length-append (first_ranks plan n) (rank_in plan n ∷ []) ∙ omega (arith, ranks-long plan n)

rank-at-place : (plan : List ℕ) (n k d : ℕ) → k < suc n → (b : Bool) → nat_lt k n ≡ b → (k < n → get_or (first_ranks plan n) k d ≡ rank_in plan k) → get_or (first_ranks plan (suc n)) k d ≡ rank_in plan k
rank-at-place plan n k d less true is rest =
    let below : k < n = ltb-true k n is in
    front-at (first_ranks plan n) (rank_in plan n ∷ []) k d (omega (arith, below, ranks-long plan n)) ∙ rest below
rank-at-place plan n k d less false is rest =
    let same : k ≡ n = omega (arith, less, ltb-false k n is) in
    let long : k ≡ length (first_ranks plan n) = same ∙ sym (ranks-long plan n) in
    ap (λ i. get_or (first_ranks plan (suc n)) i d) long ∙ last-at (first_ranks plan n) (rank_in plan n) d ∙ ap (rank_in plan) (sym same)

-- each at its place
pub ranks-at : (plan : List ℕ) (n k d : ℕ) → k < n → get_or (first_ranks plan n) k d ≡ rank_in plan k
ranks-at plan zero k d less = absurd (omega (arith, less))
ranks-at plan (suc n) k d less = rank-at-place plan n k d less (nat_lt k n) refl (λ below. ranks-at plan n k d below)

-- all ranks by the table
pub ranks-mapped : (plan xs : List ℕ) (workers : ℕ) → All (λ worker. worker < workers) xs → map (λ worker. get_or (first_ranks plan workers) worker 0) xs ≡ map (rank_in plan) xs
ranks-mapped plan xs workers below = mapped-alike (λ worker. get_or (first_ranks plan workers) worker 0) (rank_in plan) (λ worker. worker < workers) xs (λ worker less. ranks-at plan workers worker 0 less) below
