-- The first qualifier of a text, where a walk over its bytes finds it in form.
use Rattle.std.proofs.Common.{◌≡◌, ◌≢◌, ◌≤◌, ◌<◌, ℕ, zero, suc, true, false, List, ◌∷◌, [], length, take, drop, get_or, arith, subst, sym}
use Rattle.std.proofs.lemmas.List.{get_or-take, length-take-le}
use Rattle.dsn_mask.specs.Name.{is_initial}
use Rattle.dsn_mask.specs.Qualifiers.{qualifiers_of}
use Rattle.dsn_mask.specs.DataSetName.{is_qualifier, is_qualifier_byte}
use Rattle.dsn_mask.proofs.Faults.{good_is, initial_is_good}
use Rattle.dsn_mask.proofs.Split.{qualifiers_of-stop, qualifiers_of-one}

no_stop : (b : ℕ) → is_qualifier_byte b ≡ true → b ≢ 46
no_stop b good is = let bad : false ≡ true = subst (λ z. is_qualifier_byte z ≡ true) is good in absurd (cc bad)

some_front : (xs : List ℕ) (n : ℕ) → n < length xs → is_initial (get_or xs 0 0) ≡ true → (n < 8 → is_qualifier_byte (get_or xs n 0) ≡ false) → 0 < n
some_front xs zero less initial bad =
    let fine : is_qualifier_byte (get_or xs 0 0) ≡ true = initial_is_good (get_or xs 0 0) initial in
    let eight : 0 < 8 = omega arith in
    let wrong : is_qualifier_byte (get_or xs 0 0) ≡ false = bad eight in
    absurd (cc)
some_front xs (suc n) less initial bad = omega arith

-- a front before a full stop
pub front_is : (xs : List ℕ) (n : ℕ) → n < length xs → n ≤ 8 → is_initial (get_or xs 0 0) ≡ true → ((k : ℕ) → k < n → is_qualifier_byte (get_or xs k 0) ≡ true)
    → (n < 8 → is_qualifier_byte (get_or xs n 0) ≡ false) → is_qualifier (take n xs) ≡ true
front_is xs n less short initial each bad =
    let some : 0 < n = some_front xs n less initial bad in
    let count : length (take n xs) ≡ n = length-take-le n xs (omega arith) in
    good_is (take n xs) n (omega (arith, count, some)) (omega (arith, count, short)) (omega (arith, count))
    (subst (λ b. is_initial b ≡ true) (sym (get_or-take n xs 0 0 some)) initial)
    (λ k below. subst (λ b. is_qualifier_byte b ≡ true) (sym (get_or-take n xs k 0 below)) (each k below))

-- a whole text without a full stop
pub whole_is : (xs : List ℕ) (n : ℕ) → 0 < length xs → n ≡ length xs → n ≤ 8 → is_initial (get_or xs 0 0) ≡ true → ((k : ℕ) → k < n → is_qualifier_byte (get_or xs k 0) ≡ true)
    → is_qualifier xs ≡ true
whole_is xs n some all short initial each = good_is xs n some (omega arith) (omega arith) initial each

pub front_parts : (xs : List ℕ) (n : ℕ) → n < length xs → ((k : ℕ) → k < n → is_qualifier_byte (get_or xs k 0) ≡ true) → get_or xs n 0 ≡ 46
    → qualifiers_of xs ≡ take n xs ∷ qualifiers_of (drop (suc n) xs)
front_parts xs n less each found = qualifiers_of-stop xs n (λ k below. no_stop (get_or xs k 0) (each k below)) less found

pub whole_part : (xs : List ℕ) (n : ℕ) → n ≡ length xs → ((k : ℕ) → k < n → is_qualifier_byte (get_or xs k 0) ≡ true) → qualifiers_of xs ≡ xs ∷ []
whole_part xs n all each = qualifiers_of-one xs (λ k below. no_stop (get_or xs k 0) (each k (omega arith)))
