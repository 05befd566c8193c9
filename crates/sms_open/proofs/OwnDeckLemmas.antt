-- Decks in the order of their numbers are the decks of the same numbers in order.
use Rattle.std.proofs.Common.{◌≡◌, ◌≤◌, ◌<◌, ◌+◌, ℕ, suc, Bool, true, false, List, [], ◌∷◌, filter, get_or, is_lt, refl}
use Rattle.std.proofs.Common.{sym, ap, ◌∙◌, subst, arith}
use Rattle.std.specs.Prelude.{◌==◌, IsSorted}
use Rattle.std.specs.List.{AllByRecursion}
use Rattle.std.proofs.lemmas.Bool.Decides.{nat_tests}
use Rattle.std.proofs.lemmas.Map.Keys.{ge_from_not_lt}
use Rattle.sms_keeper.specs.declared.deck_row.DeckRow.{DeckRow}
use Rattle.sms_keeper.specs.Loading.{by_count}
use Rattle.sms_keeper.specs.Tables.{is_deck}
use Rattle.desk_law.specs.Decked.{AreNumbered}
use Rattle.sms_open.proofs.EachLemmas.{each-alike}

-- no deck has a number below this one
abbrev BeginAt : ℕ → List DeckRow → Type 0
BeginAt n decks = AllByRecursion (λ (deck : DeckRow). n ≤ deck.count) decks

begin-lower : (n m : ℕ) (decks : List DeckRow) → n ≤ m → BeginAt m decks → BeginAt n decks
begin-lower n m [] less all = tt
begin-lower n m (deck ∷ decks) less all = (let here = all.0 in omega (arith, less, here), begin-lower n m decks less all.1)

numbered-from : (n : ℕ) (decks : List DeckRow) → AreNumbered n decks → BeginAt (n + 1) decks
numbered-from n [] all = tt
numbered-from n (deck ∷ decks) all =
    let here = all.0 in
    (omega (arith, here), begin-lower (n + 1) (n + 1 + 1) decks (omega arith) (numbered-from (n + 1) decks all.1))

sorted-rest : (deck : DeckRow) (decks : List DeckRow) → IsSorted by_count (deck ∷ decks) → IsSorted by_count decks
sorted-rest deck decks sorted = λ k d low high.
    let next : suc k + 1 ≡ suc (k + 1) = omega arith in
    subst (λ (n : ℕ). is_lt (by_count (get_or (deck ∷ decks) n d) (get_or decks k d)) ≡ false) next (sorted (suc k) d (omega arith) (omega (arith, high)))

sorted-next : (deck other : DeckRow) (decks : List DeckRow) → IsSorted by_count (deck ∷ other ∷ decks) → deck.count ≤ other.count
sorted-next deck other decks sorted = ge_from_not_lt other.count deck.count (sorted 0 deck (omega arith) (omega arith))

sorted-from : (deck : DeckRow) (decks : List DeckRow) → IsSorted by_count (deck ∷ decks) → BeginAt deck.count decks
sorted-from deck [] sorted = tt
sorted-from deck (other ∷ decks) sorted =
    let next : deck.count ≤ other.count = sorted-next deck other decks sorted in
    (next, begin-lower deck.count other.count decks next (sorted-from other decks (sorted-rest deck (other ∷ decks) sorted)))

own-number : (n : ℕ) → (n == n) ≡ true
own-number n = grind (arith, nat_tests)

off-number : (n m : ℕ) → n < m → (m == n) ≡ false
off-number n m less = grind (arith, nat_tests, less)

none-there : (n : ℕ) (decks : List DeckRow) → BeginAt (n + 1) decks → filter (is_deck n) decks ≡ []
none-there n [] from = refl
none-there n (deck ∷ decks) from =
    let off : (deck.count == n) ≡ false = off-number n deck.count (let here = from.0 in omega (arith, here)) in
    rw off (none-there n decks from.1)

here-first : (deck : DeckRow) (decks : List DeckRow) → filter (is_deck deck.count) (deck ∷ decks) ≡ deck ∷ filter (is_deck deck.count) decks
here-first deck decks = rw (own-number deck.count) refl

-- the first of the decks in order is the first of those in the order of their numbers
first-same : (n : ℕ) (x y : DeckRow) (xs ys : List DeckRow) (b : Bool) → (y.count == x.count) ≡ b → x.count ≡ n + 1 → n + 1 ≤ y.count → IsSorted by_count (y ∷ ys)
    → filter (is_deck x.count) (y ∷ ys) ≡ x ∷ filter (is_deck x.count) xs → y ≡ x
first-same n x y xs ys true is first from sorted same =
    let now : y ∷ filter (is_deck x.count) ys ≡ x ∷ filter (is_deck x.count) xs = rw is at same in cc
first-same n x y xs ys false is first from sorted same =
    let over : x.count + 1 ≤ y.count = grind (arith, nat_tests, is, first, from) in
    let none : filter (is_deck x.count) (y ∷ ys) ≡ [] = none-there x.count (y ∷ ys) (over, begin-lower (x.count + 1) y.count ys over (sorted-from y ys sorted)) in
    let bad : [] ≡ x ∷ filter (is_deck x.count) xs = sym none ∙ same in absurd cc

rest-same : (n : ℕ) (x : DeckRow) (xs ys : List DeckRow) (b : Bool) → is_deck n x ≡ b → filter (is_deck n) (x ∷ ys) ≡ filter (is_deck n) (x ∷ xs) → filter (is_deck n) ys ≡ filter (is_deck n) xs
rest-same n x xs ys true is same =
    let now : x ∷ filter (is_deck n) ys ≡ x ∷ filter (is_deck n) xs = rw is at same in cc
rest-same n x xs ys false is same = rw is at same

pub same-decks : (n : ℕ) (xs ys : List DeckRow) → AreNumbered n xs → IsSorted by_count ys → ((count : ℕ) → filter (is_deck count) ys ≡ filter (is_deck count) xs) → ys ≡ xs
same-decks n [] [] numbered sorted same = refl
same-decks n [] (y ∷ ys) numbered sorted same =
    let bad : y ∷ filter (is_deck y.count) ys ≡ [] = sym (here-first y ys) ∙ same y.count in absurd cc
same-decks n (x ∷ xs) [] numbered sorted same =
    let bad : [] ≡ x ∷ filter (is_deck x.count) xs = same x.count ∙ here-first x xs in absurd cc
same-decks n (x ∷ xs) (y ∷ ys) numbered sorted same =
    let all : BeginAt (n + 1) (y ∷ ys) =
    each-alike (λ (deck : DeckRow). n + 1 ≤ deck.count) (λ (deck : DeckRow). is_deck deck.count) (x ∷ xs) (y ∷ ys) (λ deck. own-number deck.count) (λ deck. same deck.count) (numbered-from n (x ∷ xs) numbered) in
    let first : y ≡ x = first-same n x y xs ys _ refl numbered.0 all.0 sorted (same x.count ∙ here-first x xs) in
    let rest : (count : ℕ) → filter (is_deck count) ys ≡ filter (is_deck count) xs =
    λ count. rest-same count x xs ys _ refl (subst (λ (z : DeckRow). filter (is_deck count) (z ∷ ys) ≡ filter (is_deck count) (x ∷ xs)) first (same count)) in
    ap (λ (decks : List DeckRow). y ∷ decks) (same-decks (n + 1) xs ys numbered.1 (sorted-rest y ys sorted) rest) ∙ ap (λ (z : DeckRow). z ∷ xs) first
