-- Rows stay in the order of their keys.
use Rattle.std.proofs.Common.{◌≡◌, ◌≤◌, ◌<◌, suc, length, Bool, true, false, List, [], ◌∷◌, Ordering, Less, Equal}
use Rattle.std.proofs.Common.{Greater, refl, ap, ◌∙◌, arith}
use Rattle.std.specs.BTreeMap.{insert_entry}
use Rattle.std.specs.Cmp.{IsTotalOrder}
use Rattle.std.specs.List.{AllByRecursion}
use Rattle.std.specs.List.Sorted.{IsStrictlySortedBy}
use Rattle.std.specs.Map.{keys_of, remove_entry}
use Rattle.std.specs.Ordering.{ordering_reverse}
use Rattle.ordered_index.specs.Rows.{AreRows}

module _ {K V : Type 0} (P : K → Type 0) where
  all-put_at : (R : K → K → Ordering) (k : K) (v : V) (e : K × V) (es : List (K × V)) (o : Ordering) → R k e.0 ≡ o → P k → P e.0 → AllByRecursion P (keys_of es) → AllByRecursion P (keys_of (insert_entry R es k v)) → AllByRecursion P (keys_of (insert_entry R (e ∷ es) k v))
  all-put_at R k v e es Less is one first all rest = rw is (one, (first, all))
  all-put_at R k v e es Equal is one first all rest = rw is (first, all)
  all-put_at R k v e es Greater is one first all rest = rw is (first, rest)

  all-put : (R : K → K → Ordering) (k : K) (v : V) (es : List (K × V)) → P k → AllByRecursion P (keys_of es) → AllByRecursion P (keys_of (insert_entry R es k v))
  all-put R k v [] one all = (one, tt)
  all-put R k v (e ∷ es) one all = all-put_at R k v e es _ refl one all.0 all.1 (all-put R k v es one all.1)

  all-take_at : (test : K → Bool) (e : K × V) (es : List (K × V)) (b : Bool) → test e.0 ≡ b → P e.0 → AllByRecursion P (keys_of es) → AllByRecursion P (keys_of (remove_entry test es)) → AllByRecursion P (keys_of (remove_entry test (e ∷ es)))
  all-take_at test e es true is first all rest = rw is all
  all-take_at test e es false is first all rest = rw is (first, rest)

  all-take : (test : K → Bool) (es : List (K × V)) → AllByRecursion P (keys_of es) → AllByRecursion P (keys_of (remove_entry test es))
  all-take test [] all = tt
  all-take test (e ∷ es) all = all-take_at test e es _ refl all.0 all.1 (all-take test es all.1)

all-less : {K : Type 0} {R : K → K → Ordering} (total : IsTotalOrder R) (k x : K) (ks : List K) → R k x ≡ Less → AllByRecursion (λ (y : K). R x y ≡ Less) ks → AllByRecursion (λ (y : K). R k y ≡ Less) ks
all-less total k x [] less all = tt
all-less total k x (y ∷ ks) less all = (total.trans k x y less all.0, all-less total k x ks less all.1)

sorted-put_at : {K V : Type 0} {R : K → K → Ordering} (total : IsTotalOrder R) (k : K) (v : V) (e : K × V) (es : List (K × V)) (o : Ordering) → R k e.0 ≡ o → AreRows R (e ∷ es) → AreRows R (insert_entry R es k v) → AreRows R (insert_entry R (e ∷ es) k v)
unfolding IsStrictlySortedBy
sorted-put_at total k v e es Less is sorted rest = rw is ((is, all-less total k e.0 (keys_of es) is sorted.0), sorted)
sorted-put_at total k v e es Equal is sorted rest = rw is sorted
sorted-put_at {K} {V} {R} total k v e es Greater is sorted rest = rw is (all-put (λ (y : K). R e.0 y ≡ Less) R k v es (total.antisymm e.0 k ∙ ap ordering_reverse is) sorted.0, rest)

pub sorted-put : {K V : Type 0} {R : K → K → Ordering} (total : IsTotalOrder R) (k : K) (v : V) (es : List (K × V)) → AreRows R es → AreRows R (insert_entry R es k v)
unfolding IsStrictlySortedBy
sorted-put total k v [] sorted = (tt, tt)
sorted-put total k v (e ∷ es) sorted = sorted-put_at total k v e es _ refl sorted (sorted-put total k v es sorted.1)

sorted-take_at : {K V : Type 0} (R : K → K → Ordering) (test : K → Bool) (e : K × V) (es : List (K × V)) (b : Bool) → test e.0 ≡ b → AreRows R (e ∷ es) → AreRows R (remove_entry test es) → AreRows R (remove_entry test (e ∷ es))
unfolding IsStrictlySortedBy
sorted-take_at R test e es true is sorted rest = rw is sorted.1
sorted-take_at {K} R test e es false is sorted rest = rw is (all-take (λ (y : K). R e.0 y ≡ Less) test es sorted.0, rest)

pub sorted-take : {K V : Type 0} (R : K → K → Ordering) (test : K → Bool) (es : List (K × V)) → AreRows R es → AreRows R (remove_entry test es)
unfolding IsStrictlySortedBy
sorted-take R test [] sorted = tt
sorted-take R test (e ∷ es) sorted = sorted-take_at R test e es _ refl sorted (sorted-take R test es sorted.1)

pub sorted-nil : {K : Type 0} (V : Type 0) (R : K → K → Ordering) → AreRows {K = K} {V = V} R []
unfolding IsStrictlySortedBy
sorted-nil V R = tt

take-fewer_at : {K V : Type 0} (test : K → Bool) (e : K × V) (es : List (K × V)) (b : Bool) → test e.0 ≡ b → length (remove_entry test es) ≤ length es → length (remove_entry test (e ∷ es)) ≤ suc (length es)
take-fewer_at test e es true is fewer = rw is (omega arith)
take-fewer_at test e es false is fewer = rw is (omega (arith, fewer))

pub take-fewer : {K V : Type 0} (test : K → Bool) (es : List (K × V)) → length (remove_entry test es) ≤ length es
take-fewer test [] = omega arith
take-fewer test (e ∷ es) = take-fewer_at test e es _ refl (take-fewer test es)

put-more_at : {K V : Type 0} (R : K → K → Ordering) (k : K) (v : V) (e : K × V) (es : List (K × V)) (o : Ordering) → R k e.0 ≡ o → length es ≤ length (insert_entry R es k v) → suc (length es) ≤ length (insert_entry R (e ∷ es) k v)
put-more_at R k v e es Less is more = rw is (omega arith)
put-more_at R k v e es Equal is more = rw is (omega arith)
put-more_at R k v e es Greater is more = rw is (omega (arith, more))

pub put-more : {K V : Type 0} (R : K → K → Ordering) (k : K) (v : V) (es : List (K × V)) → length es ≤ length (insert_entry R es k v)
put-more R k v [] = omega arith
put-more R k v (e ∷ es) = put-more_at R k v e es _ refl (put-more R k v es)

put-one-more_at : {K V : Type 0} (R : K → K → Ordering) (k : K) (v : V) (e : K × V) (es : List (K × V)) (o : Ordering) → R k e.0 ≡ o → length (insert_entry R es k v) ≤ suc (length es) → length (insert_entry R (e ∷ es) k v) ≤ suc (suc (length es))
put-one-more_at R k v e es Less is most = rw is (omega arith)
put-one-more_at R k v e es Equal is most = rw is (omega arith)
put-one-more_at R k v e es Greater is most = rw is (omega (arith, most))

pub put-one-more : {K V : Type 0} (R : K → K → Ordering) (k : K) (v : V) (es : List (K × V)) → length (insert_entry R es k v) ≤ suc (length es)
put-one-more R k v [] = omega arith
put-one-more R k v (e ∷ es) = put-one-more_at R k v e es _ refl (put-one-more R k v es)

take-one-less_at : {K V : Type 0} (test : K → Bool) (e : K × V) (es : List (K × V)) (b : Bool) → test e.0 ≡ b → length es ≤ suc (length (remove_entry test es)) → suc (length es) ≤ suc (length (remove_entry test (e ∷ es)))
take-one-less_at test e es true is least = rw is (omega arith)
take-one-less_at test e es false is least = rw is (omega (arith, least))

pub take-one-less : {K V : Type 0} (test : K → Bool) (es : List (K × V)) → length es ≤ suc (length (remove_entry test es))
take-one-less test [] = omega arith
take-one-less test (e ∷ es) = take-one-less_at test e es _ refl (take-one-less test es)

pub put-some : {K V : Type 0} (R : K → K → Ordering) (k : K) (v : V) (es : List (K × V)) → 0 < length (insert_entry R es k v)
put-some R k v [] = omega arith
put-some R k v (e ∷ es) = let more = put-more R k v (e ∷ es) in omega (arith, more)
