-- What holds of each element, as a loop finds it, and as it holds of those of each key.
use Rattle.std.proofs.Common.{◌≡◌, ◌≤◌, ◌<◌, ◌+◌, ℕ, zero, suc, Bool, true, false, cond, List, [], ◌∷◌, ◌++◌, filter}
use Rattle.std.proofs.Common.{length, take, get_or, refl, sym, ap, ◌∙◌, subst, arith}
use Rattle.std.specs.List.{AllByRecursion}
use Rattle.std.proofs.lemmas.List.{take_more}
use Rattle.desk_law.proofs.PlaceLemmas.{filter-each}
use Rattle.desk_law.proofs.SetLemmas.{each-push}

module _ {X : Type 0} where
  -- one more element, as the loop reads it
  pub take-one : (xs : List X) (i : ℕ) (x : X) → i < length xs → x ≡ get_or xs i x → take (i + 1) xs ≡ take i xs ++ x ∷ []
  take-one xs i x less is = take_more xs i x less ∙ ap (λ (y : X). take i xs ++ y ∷ []) (sym is)

  -- all elements, as the loop has read them
  pub take-end : (xs : List X) (i : ℕ) → length xs ≤ i → take i xs ≡ xs
  take-end [] zero past = refl
  take-end [] (suc i) past = refl
  take-end (x ∷ xs) zero past = absurd (omega (arith, past))
  take-end (x ∷ xs) (suc i) past = ap (λ (l : List X). x ∷ l) (take-end xs i (omega (arith, past)))

module _ {X : Type 0} (P : X → Type 0) where
  -- it holds of one element more
  pub each-more : (xs : List X) (i : ℕ) (x : X) → i < length xs → x ≡ get_or xs i x → AllByRecursion P (take i xs) → P x → AllByRecursion P (take (i + 1) xs)
  each-more xs i x less is all here = subst (AllByRecursion P) (sym (take-one xs i x less is)) (each-push P (take i xs) x all here)

  -- it holds of all
  pub each-end : (xs : List X) (i : ℕ) → length xs ≤ i → AllByRecursion P (take i xs) → AllByRecursion P xs
  each-end xs i past all = subst (AllByRecursion P) (take-end xs i past) all

-- What holds of each element, as it holds of those of each key.

module _ {X : Type 0} (P : X → Type 0) (test : X → X → Bool) where
  -- it holds of the other elements of a key
  keyed-rest : (key x : X) (xs : List X) (b : Bool) → test key x ≡ b → AllByRecursion P (filter (test key) (x ∷ xs)) → AllByRecursion P (filter (test key) xs)
  keyed-rest key x xs true is all = let now : AllByRecursion P (x ∷ filter (test key) xs) = rw is at all in now.1
  keyed-rest key x xs false is all = rw is at all

  pub each-keyed : (xs : List X) → ((x : X) → test x x ≡ true) → ((x : X) → AllByRecursion P (filter (test x) xs)) → AllByRecursion P xs
  each-keyed [] own all = tt
  each-keyed (x ∷ xs) own all =
      let here : AllByRecursion P (x ∷ filter (test x) xs) = rw (own x) at (all x) in
      (here.0, each-keyed xs own (λ key. keyed-rest key x xs _ refl (all key)))

  -- lists with the same elements of each key
  pub each-alike : (xs ys : List X) → ((x : X) → test x x ≡ true) → ((x : X) → filter (test x) ys ≡ filter (test x) xs) → AllByRecursion P xs → AllByRecursion P ys
  each-alike xs ys own same all = each-keyed ys own (λ x. subst (AllByRecursion P) (sym (same x)) (filter-each P (test x) xs all))

-- how many pass a test, counted one by one
counted-length-at : {X : Type 0} (p : X → Bool) (F : List X → ℕ) (x : X) (xs : List X) (b : Bool) → p x ≡ b → F (x ∷ xs) ≡ cond (p x) 1 zero + F xs → F xs ≡ length (filter p xs) → F (x ∷ xs) ≡ length (filter p (x ∷ xs))
counted-length-at p F x xs true is some rest =
    let one : cond (p x) 1 zero ≡ suc zero = rw is refl in
    rw is (omega (arith, some, rest, one))
counted-length-at p F x xs false is some rest =
    let none : cond (p x) 1 zero ≡ zero = rw is refl in
    rw is (omega (arith, some, rest, none))

pub counted-length : {X : Type 0} (p : X → Bool) (F : List X → ℕ) → F [] ≡ 0 → ((x : X) (xs : List X) → F (x ∷ xs) ≡ cond (p x) 1 zero + F xs) → (xs : List X) → F xs ≡ length (filter p xs)
counted-length p F none some [] = none
counted-length p F none some (x ∷ xs) = counted-length-at p F x xs _ refl (some x xs) (counted-length p F none some xs)
