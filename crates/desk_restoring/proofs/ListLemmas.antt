-- Lists that are gone over one by one.
use Rattle.std.proofs.Common.{◌≡◌, ◌<◌, ℕ, zero, suc, ◌+◌, List, [], ◌∷◌, ◌++◌, length, get_or, take, drop, sym, ap}
use Rattle.std.proofs.Common.{◌∙◌, subst}
use Rattle.std.specs.List.{AllByRecursion}
use Rattle.std.proofs.lemmas.List.{drop_more, take-append-drop, take_more}

-- what was gone over, with the next element
pub take-next : {X : Type 0} (xs : List X) (i : ℕ) (x : X) → i < length xs → x ≡ get_or xs i x → take (i + 1) xs ≡ take i xs ++ x ∷ []
take-next {X = X} xs i x lt read = take_more xs i x lt ∙ ap (λ (y : X). take i xs ++ y ∷ []) (sym read)

-- what is before an element, the element, and what is behind it
pub parts-at : {X : Type 0} (xs : List X) (i : ℕ) (x : X) → i < length xs → x ≡ get_or xs i x → xs ≡ take i xs ++ x ∷ drop (i + 1) xs
parts-at {X = X} xs i x lt read = sym (take-append-drop i xs) ∙ ap (λ (l : List X). take i xs ++ l) (drop_more xs i x lt ∙ ap (λ (y : X). y ∷ drop (i + 1) xs) (sym read))

-- the same of a list that is another
pub take-in : {X : Type 0} (xs ys : List X) (i : ℕ) (x : X) → xs ≡ ys → i < length xs → x ≡ get_or xs i x → take (i + 1) ys ≡ take i ys ++ x ∷ []
take-in {X = X} xs ys i x same lt read = subst (λ (l : List X). take (i + 1) l ≡ take i l ++ x ∷ []) same (take-next xs i x lt read)

pub parts-in : {X : Type 0} (xs ys : List X) (i : ℕ) (x : X) → xs ≡ ys → i < length xs → x ≡ get_or xs i x → ys ≡ take i ys ++ x ∷ drop (i + 1) ys
parts-in {X = X} xs ys i x same lt read = subst (λ (l : List X). l ≡ take i l ++ x ∷ drop (i + 1) l) same (parts-at xs i x lt read)

-- What holds of each.

pub each-take : {X : Type 0} (P : X → Type 0) (n : ℕ) (xs : List X) → AllByRecursion P xs → AllByRecursion P (take n xs)
each-take P zero xs all = tt
each-take P (suc n) [] all = tt
each-take P (suc n) (x ∷ xs) all = (all.0, each-take P n xs all.1)

pub each-front : {X : Type 0} (P : X → Type 0) (a b : List X) → AllByRecursion P (a ++ b) → AllByRecursion P a
each-front P [] b all = tt
each-front P (x ∷ a) b all = (all.0, each-front P a b all.1)

pub each-rest : {X : Type 0} (P : X → Type 0) (a b : List X) → AllByRecursion P (a ++ b) → AllByRecursion P b
each-rest P [] b all = all
each-rest P (x ∷ a) b all = each-rest P a b all.1

pub each-weaker : {X : Type 0} (P Q : X → Type 0) (xs : List X) → ((x : X) → P x → Q x) → AllByRecursion P xs → AllByRecursion Q xs
each-weaker P Q [] step all = tt
each-weaker P Q (x ∷ xs) step all = (step x all.0, each-weaker P Q xs step all.1)
