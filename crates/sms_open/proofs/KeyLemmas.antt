-- How often keys stand among those that were gone over.
use Rattle.std.proofs.Common.{◌≡◌, ◌≤◌, ◌<◌, ◌+◌, ℕ, zero, suc, Bool, true, false, cond, List, [], ◌∷◌, ◌++◌, Option}
use Rattle.std.proofs.Common.{None, Some, Ordering, Less, Equal, Greater, length, take, get_or, refl, sym, ap, ◌∙◌}
use Rattle.std.proofs.Common.{arith, Bor}
use Rattle.std.specs.BTreeMap.{is_at}
use Rattle.std.specs.Cmp.{IsTotalOrder}
use Rattle.std.specs.Map.{lookup}
use Rattle.std.specs.Option.{is_some, option_copied}
use Rattle.std.specs.Prelude.{bytes_eq, not, slice_get, unwrap_or}
use Rattle.std.specs.Ordering.{is_eq}
use Rattle.std.proofs.lemmas.Cmp.{tied_itself}
use Rattle.ordered_index.proofs.LookupLemmas.{eq-sym, lookup-by}
use Rattle.sms_open.specs.Inner.Keys.{AreApart, AreAsOften, times_found, times_key}
use Rattle.sms_open.specs.Inner.Targets.{number_on}
use Rattle.sms_open.specs.Verdicts.{Tells}
use Rattle.sms_open.proofs.EachLemmas.{take-end, take-one}

equal_is : (o : Ordering) → is_eq o ≡ true → o ≡ Equal
equal_is Less is = absurd cc
equal_is Equal is = refl
equal_is Greater is = absurd cc

module _ {K : Type 0} (R : K → K → Ordering) where
  times-append : (key : K) (a b : List K) → times_key R key (a ++ b) ≡ times_key R key a + times_key R key b
  times-append key [] b = omega arith
  times-append key (x ∷ a) b = omega (arith, times-append key a b)

  -- one key more
  pub times-more : (key : K) (xs : List K) (i : ℕ) (x : K) → i < length xs → x ≡ get_or xs i x → times_key R key (take (i + 1) xs) ≡ times_key R key (take i xs) + cond (is_eq (R key x)) 1 zero
  times-more key xs i x less is = rw (take-one xs i x less is) (omega (arith, times-append key (take i xs) (x ∷ [])))

  -- those gone over are some of all
  pub times-front : (key : K) (xs : List K) (i : ℕ) → times_key R key (take i xs) ≤ times_key R key xs
  times-front key [] zero = omega arith
  times-front key [] (suc i) = omega arith
  times-front key (x ∷ xs) zero = omega arith
  times-front key (x ∷ xs) (suc i) = omega (arith, times-front key xs i)

  pub times-end : (key : K) (xs : List K) (i : ℕ) → length xs ≤ i → times_key R key (take i xs) ≡ times_key R key xs
  times-end key xs i past = ap (times_key R key) (take-end xs i past)

found-most : {V : Type 0} (o : Option V) → times_found o ≤ 1
found-most None = omega arith
found-most (Some v) = omega arith

own-key : {K : Type 0} {R : K → K → Ordering} (total : IsTotalOrder R) (k : K) → is_eq (R k k) ≡ true
own-key total k = ap is_eq (tied_itself total k)

module _ {K V : Type 0} {R : K → K → Ordering} (total : IsTotalOrder R) where
  -- equal keys find the same
  pub same-found : (k other : K) (es : List (K × V)) → is_eq (R k other) ≡ true → lookup (is_at (R other)) es ≡ lookup (is_at (R k)) es
  same-found k other es is = lookup-by (is_at (R other)) (is_at (R k)) es (λ x. ap is_eq (sym (total.congr k other x (equal_is (R k other) is))))

  put-at : (k other : K) (v : V) (old new : List (K × V)) (count : ℕ) (b : Bool) → is_eq (R k other) ≡ b → lookup (is_at (R other)) new ≡ cond (is_eq (R k other)) (Some v) (lookup (is_at (R other)) old)
      → lookup (is_at (R k)) old ≡ None → times_found (lookup (is_at (R other)) old) ≡ count → times_found (lookup (is_at (R other)) new) ≡ count + cond (is_eq (R k other)) 1 zero
  put-at k other v old new count true is put none counted =
      let was : lookup (is_at (R other)) old ≡ None = same-found k other old is ∙ none in
      let before : zero ≡ count = rw was at counted in
      let now : lookup (is_at (R other)) new ≡ Some v = rw is at put in
      rw (now, is) (omega (arith, before))
  put-at k other v old new count false is put none counted =
      let now : lookup (is_at (R other)) new ≡ lookup (is_at (R other)) old = rw is at put in
      rw (now, is) (omega (arith, counted))

  -- a key that wasn't there is put
  pub counted-put : (xs : List K) (i : ℕ) (k other : K) (v : V) (old new : List (K × V)) → i < length xs → k ≡ get_or xs i k
      → lookup (is_at (R other)) new ≡ cond (is_eq (R k other)) (Some v) (lookup (is_at (R other)) old) → lookup (is_at (R k)) old ≡ None
      → times_found (lookup (is_at (R other)) old) ≡ times_key R other (take i xs) → times_found (lookup (is_at (R other)) new) ≡ times_key R other (take (i + 1) xs)
  counted-put xs i k other v old new less is put none counted =
      put-at k other v old new _ _ refl put none counted
      ∙ ap (λ (b : Bool). times_key R other (take i xs) + cond b 1 zero) (eq-sym total k other)
      ∙ sym (times-more R other xs i k less is)

  -- a key that was there stands twice
  pub stands-twice : (xs : List K) (i : ℕ) (k : K) (v : V) (old : List (K × V)) → i < length xs → k ≡ get_or xs i k → lookup (is_at (R k)) old ≡ Some v
      → times_found (lookup (is_at (R k)) old) ≡ times_key R k (take i xs) → AreApart R xs → ⊥
  stands-twice xs i k v old less is found counted apart =
      let one : suc zero ≡ times_key R k (take i xs) = rw found at counted in
      let here : cond (is_eq (R k k)) 1 zero ≡ suc zero = rw (own-key total k) refl in
      omega (arith, one, here, times-more R k xs i k less is, times-front R k xs (i + 1), apart k)

  -- keys of which each is found as often as it stands stand once
  pub apart-end : (xs : List K) (i : ℕ) (es : List (K × V)) → length xs ≤ i → ((key : K) → times_found (lookup (is_at (R key)) es) ≡ times_key R key (take i xs)) → AreApart R xs
  apart-end xs i es past counted = λ key. omega (arith, counted key, times-end R key xs i past, found-most (lookup (is_at (R key)) es))

  -- where no key stands twice, the next isn't found yet
  pub not-yet : (xs : List K) (i : ℕ) (k : K) (old : List (K × V)) (found : Option V) → lookup (is_at (R k)) old ≡ found → i < length xs → k ≡ get_or xs i k → AreApart R xs
      → times_found (lookup (is_at (R k)) old) ≡ times_key R k (take i xs) → lookup (is_at (R k)) old ≡ None
  not-yet xs i k old None found less is apart counted = found
  not-yet xs i k old (Some v) found less is apart counted = absurd (stands-twice xs i k v old less is found counted apart)

  taken-at : (k other : K) (v : V) (old new : List (K × V)) (left seen : ℕ) (b : Bool) → is_eq (R k other) ≡ b → lookup (is_at (R other)) new ≡ cond (is_eq (R k other)) None (lookup (is_at (R other)) old)
      → lookup (is_at (R k)) old ≡ Some v → times_found (lookup (is_at (R other)) old) + seen ≡ left → times_found (lookup (is_at (R other)) new) + (seen + cond (is_eq (R k other)) 1 zero) ≡ left
  taken-at k other v old new left seen true is taken found counted =
      let was : lookup (is_at (R other)) old ≡ Some v = same-found k other old is ∙ found in
      let before : suc zero + seen ≡ left = rw was at counted in
      let now : lookup (is_at (R other)) new ≡ None = rw is at taken in
      rw (now, is) (omega (arith, before))
  taken-at k other v old new left seen false is taken found counted =
      let now : lookup (is_at (R other)) new ≡ lookup (is_at (R other)) old = rw is at taken in
      rw (now, is) (omega (arith, counted))

  -- a key that was left is taken
  pub counted-take : (wanted xs : List K) (i : ℕ) (k other : K) (v : V) (old new : List (K × V)) → i < length xs → k ≡ get_or xs i k
      → lookup (is_at (R other)) new ≡ cond (is_eq (R k other)) None (lookup (is_at (R other)) old) → lookup (is_at (R k)) old ≡ Some v
      → times_found (lookup (is_at (R other)) old) + times_key R other (take i xs) ≡ times_key R other wanted
      → times_found (lookup (is_at (R other)) new) + times_key R other (take (i + 1) xs) ≡ times_key R other wanted
  counted-take wanted xs i k other v old new less is taken found counted =
      ap (λ (n : ℕ). times_found (lookup (is_at (R other)) new) + n) (times-more R other xs i k less is ∙ ap (λ (b : Bool). times_key R other (take i xs) + cond b 1 zero) (sym (eq-sym total k other)))
      ∙ taken-at k other v old new _ _ _ refl taken found counted

  -- a key that isn't left stands too often
  pub too-often : (wanted xs : List K) (i : ℕ) (k : K) (old : List (K × V)) → i < length xs → k ≡ get_or xs i k → lookup (is_at (R k)) old ≡ None
      → times_found (lookup (is_at (R k)) old) + times_key R k (take i xs) ≡ times_key R k wanted → AreAsOften R wanted xs → ⊥
  too-often wanted xs i k old less is none counted same =
      let all : zero + times_key R k (take i xs) ≡ times_key R k wanted = rw none at counted in
      let here : cond (is_eq (R k k)) 1 zero ≡ suc zero = rw (own-key total k) refl in
      omega (arith, all, here, times-more R k xs i k less is, times-front R k xs (i + 1), same k)

  -- none is left
  pub none-left : (wanted xs : List K) (i : ℕ) → length xs ≤ i → (es : List (K × V)) → es ≡ [] → ((key : K) → times_found (lookup (is_at (R key)) es) + times_key R key (take i xs) ≡ times_key R key wanted) → AreAsOften R wanted xs
  none-left wanted xs i past es empty counted = λ key.
      let none : zero + times_key R key (take i xs) ≡ times_key R key wanted = rw empty at (counted key) in
      omega (arith, none, times-end R key xs i past)

  -- one is left
  pub some-left : (wanted xs : List K) (i : ℕ) → length xs ≤ i → (e : K × V) (es : List (K × V)) → ((key : K) → times_found (lookup (is_at (R key)) (e ∷ es)) + times_key R key (take i xs) ≡ times_key R key wanted) → AreAsOften R wanted xs → ⊥
  some-left wanted xs i past e es counted same =
      let here : lookup (is_at (R e.0)) (e ∷ es) ≡ Some e.1 = rw (own-key total e.0) refl in
      let one : suc zero + times_key R e.0 (take i xs) ≡ times_key R e.0 wanted = rw here at (counted e.0) in
      omega (arith, one, times-end R e.0 xs i past, same e.0)

-- a number that was put, or stands as before
put-in-place : (b : Bool) (number : ℕ) (found : Option ℕ) → unwrap_or (cond b (Some number) found) 0 ≡ cond b number (unwrap_or found 0)
put-in-place true number found = refl
put-in-place false number found = refl

pub number-put : (volser other : List ℕ) (number : ℕ) (old new : List (List ℕ × ℕ)) → lookup (bytes_eq other) new ≡ cond (bytes_eq volser other) (Some number) (lookup (bytes_eq other) old)
    → number_on other new ≡ cond (bytes_eq volser other) number (number_on other old)
number-put volser other number old new is = ap (λ (o : Option ℕ). unwrap_or o 0) is ∙ put-in-place (bytes_eq volser other) number (lookup (bytes_eq other) old)

-- what a test of an answer says of it
pub none-is : {V : Type 0} (o : Option V) (b : Bool) → b ≡ is_some o → b ≡ false → o ≡ None
none-is None b is off = refl
none-is (Some v) b is off = absurd cc

pub some-is : {V : Type 0} (o : Option V) (b : Bool) → b ≡ is_some o → b ≡ true → (v : V) × (o ≡ Some v)
some-is None b is on = absurd cc
some-is (Some v) b is on = (v, refl)

pub none-told : {V : Type 0} (o : Option V) (b : Bool) → is_some o ≡ not b → b ≡ true → o ≡ None
none-told None b is on = refl
none-told (Some v) true is on = absurd cc
none-told (Some v) false is on = absurd cc

pub some-told : {V : Type 0} (o : Option V) (b : Bool) → is_some o ≡ not b → b ≡ false → (v : V) × (o ≡ Some v)
some-told None true is off = absurd cc
some-told None false is off = absurd cc
some-told (Some v) b is off = (v, refl)

copied-some : {X : Type 0} (o : Option (Bor X)) → is_some (option_copied o) ≡ is_some o
copied-some None = refl
copied-some (Some x) = refl

module _ {K V : Type 0} {R : K → K → Ordering} (total : IsTotalOrder R) where
  left-at : (wanted xs : List K) (i : ℕ) (es : List (K × V)) (b : Bool) → length xs ≤ i → is_some (slice_get es 0) ≡ not b
      → ((key : K) → times_found (lookup (is_at (R key)) es) + times_key R key (take i xs) ≡ times_key R key wanted) → Tells (AreAsOften R wanted xs) b
  left-at wanted xs i [] true past is counted = none-left {V = V} total wanted xs i past [] refl counted
  left-at wanted xs i [] false past is counted = absurd cc
  left-at wanted xs i (e ∷ es) true past is counted = absurd cc
  left-at wanted xs i (e ∷ es) false past is counted = some-left total wanted xs i past e es counted

  -- whether a key is left tells
  pub left-told : (wanted xs : List K) (i : ℕ) (es : List (K × V)) (o : Option (Bor (K × V))) (b : Bool) → length xs ≤ i → option_copied o ≡ slice_get es 0 → is_some o ≡ not b
      → ((key : K) → times_found (lookup (is_at (R key)) es) + times_key R key (take i xs) ≡ times_key R key wanted) → Tells (AreAsOften R wanted xs) b
  left-told wanted xs i es o b past first is counted = left-at wanted xs i es b past (ap is_some (sym first) ∙ (copied-some o ∙ is)) counted
