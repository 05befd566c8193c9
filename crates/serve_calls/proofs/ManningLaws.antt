-- What goes from lists to workers, and back.
use Rattle.std.proofs.Common.{◌≡◌, ◌<◌, ℕ, zero, suc, length, get_or, refl, arith, List, [], ◌∷◌, ◌++◌, map, reverse}
use Rattle.std.proofs.Common.{ap, sym, subst, ◌∙◌, append_assoc}
use Rattle.std.specs.Prelude.{All, Option, Some}
use Rattle.std.proofs.lemmas.List.{map_push, reverse-append}
use Rattle.std.proofs.lemmas.List.Elements.{All-head, All-pop, All-push, All-tail}

-- one more is handed out
pub handed : {W Y : Type 0} (of : W → Y) (ws ws' : List W) (w : W) (ys ys' whole : List Y) (y : Y) → ws' ≡ ws ++ w ∷ [] → ys ≡ ys' ++ y ∷ [] → of w ≡ y
    → map of ws ++ reverse ys ≡ whole → map of ws' ++ reverse ys' ≡ whole
handed of ws ws' w ys ys' whole y more left has before =
    ap (λ l. map of l ++ reverse ys') more ∙ ap (λ l. l ++ reverse ys') (map_push of ws w) ∙ append_assoc (map of ws) (of w ∷ []) (reverse ys')
    ∙ ap (λ x. map of ws ++ x ∷ reverse ys') has ∙ ap (λ l. map of ws ++ l) (sym (reverse-append ys' (y ∷ []))) ∙ ap (λ l. map of ws ++ reverse l) (sym left) ∙ before

-- one more is back
pub brought : {W Y : Type 0} (of : W → Y) (ws ws' : List W) (w : W) (ys ys' whole : List Y) (y : Y) → ws ≡ ws' ++ w ∷ [] → ys' ≡ ys ++ y ∷ [] → of w ≡ y
    → ys ++ reverse (map of ws) ≡ whole → ys' ++ reverse (map of ws') ≡ whole
brought of ws ws' w ys ys' whole y left more has before =
    ap (λ l. l ++ reverse (map of ws')) more ∙ append_assoc ys (y ∷ []) (reverse (map of ws')) ∙ ap (λ x. ys ++ x ∷ reverse (map of ws')) (sym has)
    ∙ ap (λ l. ys ++ l) (sym (reverse-append (map of ws') (of w ∷ [])) ∙ ap reverse (sym (map_push of ws' w))) ∙ ap (λ l. ys ++ reverse (map of l)) (sym left) ∙ before

-- what holds of all holds of those that are left
pub fewer : {W : Type 0} (P : W → Type 0) (ws ws' : List W) (w : W) → ws ≡ ws' ++ w ∷ [] → All P ws → All P ws'
fewer P ws ws' w left all = (All-pop P ws ws' (Some w) left all).0

-- and of one more
pub more : {W : Type 0} (P : W → Type 0) (ws ws' : List W) (w : W) → ws' ≡ ws ++ w ∷ [] → All P ws → P w → All P ws'
more P ws ws' w is all one = subst (All P) (sym is) (All-push P ws w all one)

pub map-reverse : {X Y : Type 0} (f : X → Y) (xs : List X) → map f (reverse xs) ≡ reverse (map f xs)
map-reverse f [] = refl
map-reverse f (x ∷ xs) = ap (map f) (reverse-append (x ∷ []) xs) ∙ map_push f (reverse xs) x ∙ ap (λ l. l ++ f x ∷ []) (map-reverse f xs)
    ∙ sym (reverse-append (f x ∷ []) (map f xs))

pub All-reverse : {X : Type 0} (P : X → Type 0) (xs : List X) → All P xs → All P (reverse xs)
All-reverse P [] all = all
All-reverse P (x ∷ xs) all = subst (All P) (sym (reverse-append (x ∷ []) xs)) (All-push P (reverse xs) x (All-reverse P xs (All-tail P x xs all)) (All-head P x xs all))

one-some : {X : Type 0} (x y : X) (xs ys : List (Option X)) → Some x ∷ xs ≡ Some y ∷ ys → (x ≡ y) × (xs ≡ ys)
one-some x y xs ys is = (cc, cc)

pub all-some : {X : Type 0} (xs ys : List X) → map (λ x. Some x) xs ≡ map (λ y. Some y) ys → xs ≡ ys
all-some [] [] is = refl
all-some [] (y ∷ ys) is = absurd cc
all-some (x ∷ xs) [] is = absurd cc
all-some (x ∷ xs) (y ∷ ys) is =
    let heads = one-some x y (map (λ x. Some x) xs) (map (λ y. Some y) ys) is in
    ap (λ z. z ∷ xs) heads.0 ∙ ap (λ zs. y ∷ zs) (all-some xs ys heads.1)

-- the element at a place of a list that a function was put over
pub at-map : {X Y : Type 0} (f : X → Y) (xs : List X) (i : ℕ) (d : X) (e : Y) → i < length xs → get_or (map f xs) i e ≡ f (get_or xs i d)
at-map f [] i d e less = absurd (omega arith)
at-map f (x ∷ xs) zero d e less = refl
at-map f (x ∷ xs) (suc i) d e less = at-map f xs i d e (omega (arith, less))
