-- What stands at a position of a list, and what passes a test.
use Rattle.std.proofs.Common.{◌≡◌, ℕ, zero, suc, Bool, true, false, List, [], ◌∷◌, ◌++◌, refl, ap, subst}
use Rattle.std.specs.Prelude.{Some, filter, find, slice_get}
use Rattle.std.specs.List.{AllByRecursion}

-- what holds of each holds at a position
pub each-at : {X : Type 0} (P : X → Type 0) (xs : List X) (k : ℕ) (x : X) → AllByRecursion P xs → slice_get xs k ≡ Some x → P x
each-at P [] k x all there = absurd cc
each-at P (y ∷ xs) zero x all there =
    let same : y ≡ x = cc in subst P same all.0
each-at P (y ∷ xs) (suc k) x all there = each-at P xs k x all.1 there

filter-each-at : {X : Type 0} (P : X → Type 0) (p : X → Bool) (x : X) (xs : List X) (b : Bool) → p x ≡ b → P x → AllByRecursion P (filter p xs) → AllByRecursion P (filter p (x ∷ xs))
filter-each-at P p x xs true is here rest = rw is (here, rest)
filter-each-at P p x xs false is here rest = rw is rest

-- what holds of each holds of those that pass
pub filter-each : {X : Type 0} (P : X → Type 0) (p : X → Bool) (xs : List X) → AllByRecursion P xs → AllByRecursion P (filter p xs)
filter-each P p [] all = tt
filter-each P p (x ∷ xs) all = filter-each-at P p x xs _ refl all.0 (filter-each P p xs all.1)

filter-passes-at : {X : Type 0} (p : X → Bool) (x : X) (xs : List X) (b : Bool) → p x ≡ b → AllByRecursion (λ (y : X). p y ≡ true) (filter p xs) → AllByRecursion (λ (y : X). p y ≡ true) (filter p (x ∷ xs))
filter-passes-at p x xs true is rest = rw is (is, rest)
filter-passes-at p x xs false is rest = rw is rest

-- those that pass do
pub filter-passes : {X : Type 0} (p : X → Bool) (xs : List X) → AllByRecursion (λ (x : X). p x ≡ true) (filter p xs)
filter-passes p [] = tt
filter-passes p (x ∷ xs) = filter-passes-at p x xs _ refl (filter-passes p xs)

pub each-both : {X : Type 0} (A B C : X → Type 0) (xs : List X) → ((x : X) → A x → B x → C x) → AllByRecursion A xs → AllByRecursion B xs → AllByRecursion C xs
each-both A B C [] step a b = tt
each-both A B C (x ∷ xs) step a b = (step x a.0 b.0, each-both A B C xs step a.1 b.1)

find-each-at : {X : Type 0} (P : X → Type 0) (p : X → Bool) (x : X) (xs : List X) (found : X) (b : Bool) → p x ≡ b → P x → (find p xs ≡ Some found → P found) → find p (x ∷ xs) ≡ Some found → P found
find-each-at P p x xs found true is here rest there =
    let now : Some x ≡ Some found = rw is at there in
    let same : x ≡ found = cc in subst P same here
find-each-at P p x xs found false is here rest there =
    let now : find p xs ≡ Some found = rw is at there in rest now

-- what holds of each holds of what is found
pub find-each : {X : Type 0} (P : X → Type 0) (p : X → Bool) (xs : List X) (found : X) → AllByRecursion P xs → find p xs ≡ Some found → P found
find-each P p [] found all there = absurd cc
find-each P p (x ∷ xs) found all there = find-each-at P p x xs found _ refl all.0 (λ e. find-each P p xs found all.1 e) there

filter-append-at : {X : Type 0} (p : X → Bool) (x : X) (a b : List X) (c : Bool) → p x ≡ c → filter p (a ++ b) ≡ filter p a ++ filter p b → filter p (x ∷ (a ++ b)) ≡ filter p (x ∷ a) ++ filter p b
filter-append-at p x a b true is rest = rw is (ap (λ l. x ∷ l) rest)
filter-append-at p x a b false is rest = rw is rest

pub filter-append : {X : Type 0} (p : X → Bool) (a b : List X) → filter p (a ++ b) ≡ filter p a ++ filter p b
filter-append p [] b = refl
filter-append p (x ∷ a) b = filter-append-at p x a b _ refl (filter-append p a b)
