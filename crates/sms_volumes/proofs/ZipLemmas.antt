-- Lists of which each element became another.
use Rattle.std.proofs.Common.{◌≡◌, ◌<◌, ℕ, zero, suc, ◌+◌, List, [], ◌∷◌, ◌++◌, length, map, get_or, set, take, drop}
use Rattle.std.proofs.Common.{refl, sym, ap, subst, arith}
use Rattle.std.specs.List.{AllZip}

-- the front of the list has been gone over, the rest is as it was
pub record IsOver {X : Type 0} (R : X → X → Type 0) (xs ys : List X) (i : ℕ) : Type 0 where
  pub front : AllZip R (take i xs) (take i ys)
  pub rest : drop i ys ≡ drop i xs
  pub same : length ys ≡ length xs

pub over-none : {X : Type 0} (R : X → X → Type 0) (xs : List X) → IsOver R xs xs 0
over-none R [] = record { front = tt; rest = refl; same = refl }
over-none R (x ∷ xs) = record { front = tt; rest = refl; same = refl }

over-at : {X : Type 0} (R : X → X → Type 0) (x y : X) (xs ys : List X) (i : ℕ) → R x y → IsOver R xs ys i → IsOver R (x ∷ xs) (y ∷ ys) (suc i)
over-at R x y xs ys i here over = record { front = (here, over.front); rest = over.rest; same = omega (arith, over.same) }

none-left : {X : Type 0} (xs : List X) → 0 ≡ length xs → xs ≡ []
none-left [] is = refl
none-left (x ∷ xs) is = absurd (omega (arith, is))

-- one more
pub over-more : {X : Type 0} (R : X → X → Type 0) (xs ys : List X) (i : ℕ) (y d : X) → i < length xs → IsOver R xs ys i → R (get_or xs i d) y → IsOver R xs (set ys i y) (suc i)
over-more R [] ys i y d lt over here = absurd (omega (arith, lt))
over-more R (x ∷ xs) [] i y d lt over here = absurd (omega (arith, over.same))
over-more R (x ∷ xs) (z ∷ ys) zero y d lt over here =
    let all : z ∷ ys ≡ x ∷ xs = over.rest in
    let rest : ys ≡ xs = cc in
    record { front = (here, tt); rest = rest; same = ap (λ (l : List _). length (x ∷ l)) rest }
over-more R (x ∷ xs) (z ∷ ys) (suc i) y d lt over here =
    let inner : IsOver R xs ys i = record { front = over.front.1; rest = over.rest; same = omega (arith, over.same) } in
    over-at R x z xs (set ys i y) (suc i) over.front.0 (over-more R xs ys i y d (omega (arith, lt)) inner here)

pub over-all : {X : Type 0} (R : X → X → Type 0) (xs ys : List X) → IsOver R xs ys (length xs) → AllZip R xs ys
over-all R [] [] over = tt
over-all R [] (y ∷ ys) over = absurd (omega (arith, over.same))
over-all R (x ∷ xs) [] over = absurd (omega (arith, over.same))
over-all R (x ∷ xs) (y ∷ ys) over = (over.front.0, over-all R xs ys (record { front = over.front.1; rest = over.rest; same = omega (arith, over.same) }))

pub read-same : {X : Type 0} (xs ys : List X) (i : ℕ) (x : X) → drop i ys ≡ drop i xs → length ys ≡ length xs → get_or ys i x ≡ get_or xs i x
read-same [] [] i x rest same = refl
read-same [] (y ∷ ys) i x rest same = absurd (omega (arith, same))
read-same (z ∷ xs) [] i x rest same = absurd (omega (arith, same))
read-same (z ∷ xs) (y ∷ ys) zero x rest same =
    let is : y ≡ z = cc in is
read-same (z ∷ xs) (y ∷ ys) (suc i) x rest same = read-same xs ys i x rest (omega (arith, same))

-- the element at the place becomes another
pub over-next : {X : Type 0} (R : X → X → Type 0) (xs ys : List X) (i : ℕ) (d y : X) → i < length ys → IsOver R xs ys i → R (get_or ys i d) y → IsOver R xs (set ys i y) (i + 1)
over-next R xs ys i d y lt over here =
    let next : suc i ≡ i + 1 = omega arith in
    subst (IsOver R xs (set ys i y)) next (over-more R xs ys i y d (omega (arith, lt, over.same)) over (subst (λ z. R z y) (read-same xs ys i d over.rest over.same) here))

-- A list written back over another of its length.

pub zip-length : {X : Type 0} (R : X → X → Type 0) (xs ys : List X) → AllZip R xs ys → length ys ≡ length xs
zip-length R [] [] zip = refl
zip-length R [] (y ∷ ys) zip = absurd zip
zip-length R (x ∷ xs) [] zip = absurd zip
zip-length R (x ∷ xs) (y ∷ ys) zip =
    let rest = zip-length R xs ys zip.1 in omega (arith, rest)

take-none : {X : Type 0} (xs : List X) (n : ℕ) → length xs ≡ 0 → take n xs ≡ xs
take-none [] zero none = refl
take-none [] (suc n) none = refl
take-none (x ∷ xs) n none = absurd (omega (arith, none))

pub refilled : {X : Type 0} (old new : List X) (len : ℕ) → length new ≡ length old → length old ≡ len → take len (new ++ drop (length new) old) ≡ new
refilled [] [] len same is = take-none [] len refl
refilled [] (y ∷ new) len same is = absurd (omega (arith, same))
refilled (x ∷ old) [] len same is = absurd (omega (arith, same))
refilled {X = X} (x ∷ old) (y ∷ new) len same is =
    subst (λ n. take n ((y ∷ new) ++ drop (length (y ∷ new)) (x ∷ old)) ≡ y ∷ new) is (ap (λ (l : List X). y ∷ l) (refilled old new (length old) (omega (arith, same)) refl))

pub written-back : {X : Type 0} (R : X → X → Type 0) (old new : List X) (len : ℕ) → length old ≡ len → AllZip R old new → AllZip R old (take len (new ++ drop (length new) old))
written-back R old new len is zip = subst (AllZip R old) (sym (refilled old new len (zip-length R old new zip) is)) zip

-- each became its image
pub mapped-over : {X : Type 0} (f : X → X) (xs ys : List X) → AllZip (λ x y. y ≡ f x) xs ys → ys ≡ map f xs
mapped-over f [] [] zip = refl
mapped-over f [] (y ∷ ys) zip = absurd zip
mapped-over f (x ∷ xs) [] zip = absurd zip
mapped-over f (x ∷ xs) (y ∷ ys) zip =
    let here = zip.0 in let rest = mapped-over f xs ys zip.1 in rw (here, rest) refl
