-- Rows in order: of any order that tells them apart there is one, and among rows whose numbers rise it keeps those of
-- one key as they stood.
use Rattle.std.proofs.Common.{◌≡◌, ◌+◌, zero, suc, Bool, true, false, cond, List, [], ◌∷◌, map, filter, refl, sym, ap}
use Rattle.std.proofs.Common.{subst, ◌∙◌, inl, inr, arith, add-one, Ordering, Less, Equal, Greater, is_lt}
use Rattle.std.proofs.Common.{IsPermutation, IsSorted}
use Rattle.std.specs.Cmp.{IsTotalOrder}
use Rattle.std.specs.List.{AllByRecursion}
use Rattle.std.specs.Ordering.{is_eq, on, ordering_reverse, ordering_then, then_cmp}
use Rattle.std.proofs.lemmas.Cmp.{on_total, then_total}
use Rattle.std.proofs.lemmas.List.{get_or-map, length-map}
use Rattle.sqlite_value.specs.Order.{Row, value_cmp}
use Rattle.sqlite_value.proofs.OrderLemmas.{value_cmp_total}
use Rattle.sqlite_trees.specs.Tree.{rowid, IsTable}
use Rattle.sqlite_trees.proofs.ListLemmas.{along_permutation}
use Rattle.sqlite_rules.specs.Lists.{Has}
use Rattle.sqlite_rules.proofs.PlaceLemmas.{tied_same}
use Rattle.keeper_statements.specs.Order.{put_in, in_order}

less_is : (o : Ordering) → is_lt o ≡ true → o ≡ Less
less_is Less e = refl
less_is Equal e = absurd cc
less_is Greater e = absurd cc

-- rows that the order doesn't tell apart are one
abbrev pub AreApart : (Row → Row → Ordering) → List Row → Type 0
AreApart order rows = (a b : Row) → Has rows a → Has rows b → order a b ≡ Equal → a ≡ b

module _ (order : Row → Row → Ordering) (total : IsTotalOrder order) where
  past : (x z : Row) (zs : List Row) → is_lt (order z x) ≡ true → put_in order x (z ∷ zs) ≡ z ∷ put_in order x zs
  past x z zs low = ap (λ b. cond b (z ∷ put_in order x zs) (x ∷ z ∷ zs)) low

  before : (x z : Row) (zs : List Row) → is_lt (order z x) ≡ false → put_in order x (z ∷ zs) ≡ x ∷ z ∷ zs
  before x z zs high = ap (λ b. cond b (z ∷ put_in order x zs) (x ∷ z ∷ zs)) high

  -- at the next element, where the exchange behind it is known
  lower_at : (x y z : Row) (zs : List Row) → order x y ≡ Less → put_in order x (put_in order y zs) ≡ put_in order y (put_in order x zs)
      → put_in order x (put_in order y (z ∷ zs)) ≡ put_in order y (put_in order x (z ∷ zs))
  lower_at x y z zs low behind = by (is_lt (order z x)) refl (is_lt (order z y)) refl
    where
      lower : is_lt (order x y) ≡ true
      lower = ap is_lt low

      higher : is_lt (order y x) ≡ false
      higher = ap is_lt (total.antisymm y x ∙ ap ordering_reverse low)

      by : (a : Bool) → is_lt (order z x) ≡ a → (b : Bool) → is_lt (order z y) ≡ b → put_in order x (put_in order y (z ∷ zs)) ≡ put_in order y (put_in order x (z ∷ zs))
      by true p true q =
          ap (put_in order x) (past y z zs q) ∙ past x z (put_in order y zs) p ∙ ap (λ l. z ∷ l) behind
          ∙ sym (ap (put_in order y) (past x z zs p) ∙ past y z (put_in order x zs) q)
      by true p false q =
          let under : is_lt (order z y) ≡ true = ap is_lt (total.trans z x y (less_is _ p) low) in
          let both : true ≡ false = sym under ∙ q in
          absurd cc
      by false p true q =
          ap (put_in order x) (past y z zs q) ∙ before x z (put_in order y zs) p
          ∙ sym (ap (put_in order y) (before x z zs p) ∙ past y x (z ∷ zs) lower ∙ ap (λ l. x ∷ l) (past y z zs q))
      by false p false q =
          ap (put_in order x) (before y z zs q) ∙ before x y (z ∷ zs) higher
          ∙ sym (ap (put_in order y) (before x z zs p) ∙ past y x (z ∷ zs) lower ∙ ap (λ l. x ∷ l) (before y z zs q))

  lower_first : (x y : Row) (zs : List Row) → order x y ≡ Less → put_in order x (put_in order y zs) ≡ put_in order y (put_in order x zs)
  lower_first x y [] low = before x y [] (ap is_lt (total.antisymm y x ∙ ap ordering_reverse low)) ∙ sym (past y x [] (ap is_lt low))
  lower_first x y (z ∷ zs) low = lower_at x y z zs low (lower_first x y zs low)

  exchanged : (x y : Row) (zs : List Row) → (order x y ≡ Equal → x ≡ y) → put_in order x (put_in order y zs) ≡ put_in order y (put_in order x zs)
  exchanged x y zs once = by (order x y) refl
    where
      by : (o : Ordering) → order x y ≡ o → put_in order x (put_in order y zs) ≡ put_in order y (put_in order x zs)
      by Less is = lower_first x y zs is
      by Equal is = subst (λ w. put_in order x (put_in order w zs) ≡ put_in order w (put_in order x zs)) (once is) refl
      by Greater is = sym (lower_first y x zs (total.antisymm y x ∙ ap ordering_reverse is))

  -- the rows are among the first, and in order they are the same
  abbrev AreOne : List Row → List Row → Type 0
  AreOne xs ys = ((r : Row) → Has ys r → Has xs r) × (AreApart order xs → in_order order xs ≡ in_order order ys)

  under : (x : Row) (xs ys : List Row) → AreOne xs ys → AreOne (x ∷ xs) (x ∷ ys)
  under x xs ys h = (
    λ r k. elim k [ inl same ↦ inl same | inr there ↦ inr (h.0 r there) ],
    λ once. ap (put_in order x) (h.1 (λ a b p q. once a b (inr p) (inr q))),
  )

  turned : (x y : Row) (xs : List Row) → AreOne (x ∷ y ∷ xs) (y ∷ x ∷ xs)
  turned x y xs = (
    λ r k. elim k [ inl same ↦ inr (inl same) | inr more ↦ elim more [ inl same ↦ inl same | inr there ↦ inr (inr there) ] ],
    λ once. exchanged x y (in_order order xs) (once x y (inl refl) (inr (inl refl))),
  )

  pub one_order : (xs ys : List Row) → IsPermutation xs ys → AreApart order xs → in_order order xs ≡ in_order order ys
  one_order xs ys same = (along_permutation AreOne (λ xs. (λ r k. k, λ once. refl)) under turned (λ xs ys zs p q. (
    λ r k. p.0 r (q.0 r k),
    λ once. p.1 once ∙ q.1 (λ a b h k. once a b (p.0 a h) (p.0 b k)),
  )) xs ys same).1

  first_stays : (x : Row) (rows : List Row) → IsSorted order (x ∷ rows) → put_in order x rows ≡ x ∷ rows
  first_stays x [] sorted = refl
  first_stays x (y ∷ rows) sorted = before x y rows (sorted 0 x (omega arith) (omega arith))

  pub sorted_stays : (rows : List Row) → IsSorted order rows → in_order order rows ≡ rows
  sorted_stays [] sorted = refl
  sorted_stays (x ∷ rows) sorted =
      let tail : IsSorted order rows = λ k d p q. rw add-one (rw add-one at (sorted (suc k) d (omega arith) (omega arith))) in
      ap (put_in order x) (sorted_stays rows tail) ∙ first_stays x rows sorted

pub sorted_from_map : {X Y : Type 0} (cmp : Y → Y → Ordering) (f : X → Y) (xs : List X) → IsSorted cmp (map f xs) → IsSorted (λ a b. cmp (f a) (f b)) xs
sorted_from_map cmp f xs sorted k d low high =
    rw (get_or-map f xs (k + 1) d (f d) high, get_or-map f xs k d (f d) (omega arith)) at (sorted k (f d) low (rw length-map high))

lt_then : (o n : Ordering) → n ≡ Greater → is_lt (ordering_then o n) ≡ is_lt o
lt_then Less n e = refl
lt_then Equal n e = ap is_lt e
lt_then Greater n e = refl

second_tie : (o n : Ordering) → ordering_then o n ≡ Equal → n ≡ Equal
second_tie Less n e = absurd cc
second_tie Equal n e = e
second_tie Greater n e = absurd cc

-- by key, and rows of one key by their numbers
module _ (key : Row → Row → Ordering) where
  abbrev pub numbered : Row → Row → Ordering
  numbered = then_cmp key (on rowid value_cmp)

  pub numbered_total : IsTotalOrder key → IsTotalOrder numbered
  numbered_total total = then_total total (on_total rowid value_cmp_total)

  pub numbered_apart : (rows : List Row) → IsTable rows → AreApart numbered rows
  numbered_apart rows up a b h k tie = tied_same rows a b up h k (second_tie (key a b) (value_cmp (rowid a) (rowid b)) tie)

  put_alike : (x : Row) (ys : List Row) → AllByRecursion (λ y. value_cmp (rowid x) (rowid y) ≡ Less) ys → put_in numbered x ys ≡ put_in key x ys
  put_alike x [] all = refl
  put_alike x (y ∷ ys) all =
      let up : value_cmp (rowid y) (rowid x) ≡ Greater = value_cmp_total.antisymm (rowid y) (rowid x) ∙ ap ordering_reverse all.0 in
      ap (λ b. cond b (y ∷ put_in numbered x ys) (x ∷ y ∷ ys)) (lt_then (key y x) (value_cmp (rowid y) (rowid x)) up)
      ∙ ap (λ l. cond (is_lt (key y x)) (y ∷ l) (x ∷ y ∷ ys)) (put_alike x ys all.1)

  all_put : (P : Row → Type 0) (x : Row) (ys : List Row) → P x → AllByRecursion P ys → AllByRecursion P (put_in key x ys)
  all_put P x [] here all = (here, tt)
  all_put P x (y ∷ ys) here all =
      elim (is_lt (key y x)) as (λ b. AllByRecursion P (cond b (y ∷ put_in key x ys) (x ∷ y ∷ ys)))
      [ true ↦ (all.0, all_put P x ys here all.1) | false ↦ (here, all) ]

  all_ordered : (P : Row → Type 0) (rows : List Row) → AllByRecursion P rows → AllByRecursion P (in_order key rows)
  all_ordered P [] all = tt
  all_ordered P (x ∷ rows) all = all_put P x (in_order key rows) all.0 (all_ordered P rows all.1)

  pub numbered_alike : (rows : List Row) → IsTable rows → in_order numbered rows ≡ in_order key rows
  numbered_alike [] up = refl
  numbered_alike (x ∷ rows) up = ap (put_in numbered x) (numbered_alike rows up.1) ∙ put_alike x (in_order key rows) (all_ordered _ rows up.0)

put_mapped : (f : Row → Row) (key : Row → Row → Ordering) (x : Row) (ys : List Row) → map f (put_in (λ a b. key (f a) (f b)) x ys) ≡ put_in key (f x) (map f ys)
put_mapped f key x [] = refl
put_mapped f key x (y ∷ ys) =
    elim (is_lt (key (f y) (f x))) as (λ b. map f (cond b (y ∷ put_in (λ a b. key (f a) (f b)) x ys) (x ∷ y ∷ ys)) ≡ cond b (f y ∷ put_in key (f x) (map f ys)) (f x ∷ f y ∷ map f ys))
    [ true ↦ ap (λ l. f y ∷ l) (put_mapped f key x ys) | false ↦ refl ]

pub order_mapped : (f : Row → Row) (key : Row → Row → Ordering) (rows : List Row) → map f (in_order (λ a b. key (f a) (f b)) rows) ≡ in_order key (map f rows)
order_mapped f key [] = refl
order_mapped f key (x ∷ rows) = put_mapped f key x (in_order (λ a b. key (f a) (f b)) rows) ∙ ap (put_in key (f x)) (order_mapped f key rows)

-- elements of one key stay as they stood
module _ {X : Type 0} (cmp : X → X → Ordering) (test : X → Bool) (knows : (x y : X) → test x ≡ true → is_eq (cmp y x) ≡ test y) where
  put_at : (x y : X) (ys : List X) → filter test (put_in cmp x ys) ≡ filter test (x ∷ ys) → (o : Ordering) → cmp y x ≡ o → (b : Bool) → test x ≡ b
      → filter test (put_in cmp x (y ∷ ys)) ≡ filter test (x ∷ y ∷ ys)
  put_at x y ys behind Less is true here =
      let gone : test y ≡ false = sym (knows x y here) ∙ ap is_eq is in
      ap (λ l. filter test (cond l (y ∷ put_in cmp x ys) (x ∷ y ∷ ys))) (ap is_lt is)
      ∙ ap (λ b. cond b (y ∷ filter test (put_in cmp x ys)) (filter test (put_in cmp x ys))) gone
      ∙ behind
      ∙ ap (λ l. cond (test x) (x ∷ l) l) (sym (ap (λ b. cond b (y ∷ filter test ys) (filter test ys)) gone))
  put_at x y ys behind Less is false out =
      ap (λ l. filter test (cond l (y ∷ put_in cmp x ys) (x ∷ y ∷ ys))) (ap is_lt is)
      ∙ ap (λ l. cond (test y) (y ∷ l) l) (behind ∙ ap (λ b. cond b (x ∷ filter test ys) (filter test ys)) out)
      ∙ ap (λ b. cond b (x ∷ filter test (y ∷ ys)) (filter test (y ∷ ys))) (sym out)
  put_at x y ys behind Equal is b at = ap (λ l. filter test (cond l (y ∷ put_in cmp x ys) (x ∷ y ∷ ys))) (ap is_lt is)
  put_at x y ys behind Greater is b at = ap (λ l. filter test (cond l (y ∷ put_in cmp x ys) (x ∷ y ∷ ys))) (ap is_lt is)

  put_found : (x : X) (ys : List X) → filter test (put_in cmp x ys) ≡ filter test (x ∷ ys)
  put_found x [] = refl
  put_found x (y ∷ ys) = put_at x y ys (put_found x ys) (cmp y x) refl (test x) refl

  pub order_found : (xs : List X) → filter test (in_order cmp xs) ≡ filter test xs
  order_found [] = refl
  order_found (x ∷ xs) = put_found x (in_order cmp xs) ∙ ap (λ l. cond (test x) (x ∷ l) l) (order_found xs)

-- none is lower than the one before it
module _ {X : Type 0} (cmp : X → X → Ordering) (total : IsTotalOrder cmp) where
  abbrev Rises : List X → Type 0
  Rises [] = Unit {0}
  Rises (x ∷ []) = Unit {0}
  Rises (x ∷ y ∷ ys) = (is_lt (cmp y x) ≡ false) × Rises (y ∷ ys)

  turned_low : (x y : X) → is_lt (cmp y x) ≡ true → is_lt (cmp x y) ≡ false
  turned_low x y low = ap is_lt (total.antisymm x y ∙ ap ordering_reverse (less_is _ low))

  put_behind : (x y : X) (zs : List X) → is_lt (cmp y x) ≡ true → Rises (y ∷ zs) → Rises (put_in cmp x zs) → Rises (y ∷ put_in cmp x zs)
  put_behind x y [] low here more = (turned_low x y low, tt)
  put_behind x y (z ∷ zs) low here more =
      elim (is_lt (cmp z x)) as (λ b. Rises (cond b (z ∷ put_in cmp x zs) (x ∷ z ∷ zs)) → Rises (y ∷ cond b (z ∷ put_in cmp x zs) (x ∷ z ∷ zs)))
      [ true ↦ λ r. (here.0, r) | false ↦ λ r. (turned_low x y low, r) ] more

  rest_rises : (y : X) (zs : List X) → Rises (y ∷ zs) → Rises zs
  rest_rises y [] r = tt
  rest_rises y (z ∷ zs) r = r.1

  rises_at : (x y : X) (ys : List X) → Rises (y ∷ ys) → Rises (put_in cmp x ys) → (b : Bool) → is_lt (cmp y x) ≡ b → Rises (put_in cmp x (y ∷ ys))
  rises_at x y ys up more true low = subst (λ b. Rises (cond b (y ∷ put_in cmp x ys) (x ∷ y ∷ ys))) (sym low) (put_behind x y ys low up more)
  rises_at x y ys up more false high = subst (λ b. Rises (cond b (y ∷ put_in cmp x ys) (x ∷ y ∷ ys))) (sym high) (high, up)

  put_rises : (x : X) (ys : List X) → Rises ys → Rises (put_in cmp x ys)
  put_rises x [] up = tt
  put_rises x (y ∷ ys) up = rises_at x y ys up (put_rises x ys (rest_rises y ys up)) (is_lt (cmp y x)) refl

  order_rises : (xs : List X) → Rises (in_order cmp xs)
  order_rises [] = tt
  order_rises (x ∷ xs) = put_rises x (in_order cmp xs) (order_rises xs)

  sorted_by_rise : (xs : List X) → Rises xs → IsSorted cmp xs
  sorted_by_rise [] up k d p q = absurd (omega arith)
  sorted_by_rise (x ∷ []) up k d p q = absurd (omega arith)
  sorted_by_rise (x ∷ y ∷ xs) up zero d p q = up.0
  sorted_by_rise (x ∷ y ∷ xs) up (suc k) d p q = rw add-one (rw add-one at (sorted_by_rise (y ∷ xs) up.1 k d (omega arith) (omega arith)))

  pub order_sorted : (xs : List X) → IsSorted cmp (in_order cmp xs)
  order_sorted xs = sorted_by_rise (in_order cmp xs) (order_rises xs)
