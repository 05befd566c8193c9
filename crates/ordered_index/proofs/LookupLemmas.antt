-- What is found behind a row that was put or taken.
use Rattle.std.proofs.Common.{◌≡◌, ℕ, Bool, true, false, cond, List, [], ◌∷◌, Option, None, Some, Ordering, Less, Equal}
use Rattle.std.proofs.Common.{Greater, refl, ap, sym, ◌∙◌}
use Rattle.std.proofs.lemmas.Map.Text.{is_eq-slice_cmp}
use Rattle.std.specs.Prelude.{bytes_eq}
use Rattle.std.specs.BTreeMap.{insert_entry, is_at}
use Rattle.std.specs.Cmp.Lexicographic.{slice_cmp}
use Rattle.std.specs.Cmp.{IsTotalOrder}
use Rattle.std.specs.List.{AllByRecursion}
use Rattle.std.specs.List.Sorted.{IsStrictlySortedBy}
use Rattle.std.specs.Map.{keys_of, lookup, remove_entry}
use Rattle.std.specs.Ordering.{is_eq, nat_cmp, ordering_reverse}
use Rattle.ordered_index.specs.Rows.{AreRows}

-- tests that agree find the same
pub lookup-by : {K V : Type 0} (P Q : K → Bool) (es : List (K × V)) → ((k : K) → P k ≡ Q k) → lookup P es ≡ lookup Q es
lookup-by P Q [] same = refl
lookup-by {K} {V} P Q (e ∷ es) same = ap (λ (b : Bool). cond b (Some e.1) (lookup P es)) (same e.0) ∙ ap (λ (o : Option V). cond (Q e.0) (Some e.1) o) (lookup-by P Q es same)

nothing : {V : Type 0} (b : Bool) (found : Option V) → found ≡ None → found ≡ cond b None found
nothing true found is = is
nothing false found is = refl

equal_is : (o : Ordering) → is_eq o ≡ true → o ≡ Equal
equal_is Less is = absurd cc
equal_is Equal is = refl
equal_is Greater is = absurd cc

reverse_eq : (o : Ordering) → is_eq (ordering_reverse o) ≡ is_eq o
reverse_eq Less = refl
reverse_eq Equal = refl
reverse_eq Greater = refl

-- in place of an equal key
in_place : {V : Type 0} (b c : Bool) (v w : V) (rest : Option V) → c ≡ b → cond c (Some v) rest ≡ cond b (Some v) (cond c (Some w) rest)
in_place true true v w rest is = refl
in_place true false v w rest is = absurd cc
in_place false true v w rest is = absurd cc
in_place false false v w rest is = refl

-- behind another key
behind_other : {V : Type 0} (b c : Bool) (v w : V) (rest : Option V) → (c ≡ true → b ≡ true → ⊥) → cond c (Some w) (cond b (Some v) rest) ≡ cond b (Some v) (cond c (Some w) rest)
behind_other true true v w rest apart = absurd (apart refl refl)
behind_other true false v w rest apart = refl
behind_other false true v w rest apart = refl
behind_other false false v w rest apart = refl

module _ {K : Type 0} {R : K → K → Ordering} (total : IsTotalOrder R) where
  -- equal either way round
  pub eq-sym : (x y : K) → is_eq (R x y) ≡ is_eq (R y x)
  eq-sym x y = ap is_eq (total.antisymm x y) ∙ reverse_eq (R y x)

  -- an equal key compares alike
  eq-alike : (k x other : K) → R k x ≡ Equal → is_eq (R other x) ≡ is_eq (R k other)
  eq-alike k x other is = eq-sym other x ∙ ap is_eq (sym (total.congr k x other is))

  apart_from : (k x other : K) → R k x ≡ Greater → is_eq (R other x) ≡ true → is_eq (R k other) ≡ true → ⊥
  apart_from k x other is one two =
      let other-x : R other x ≡ Equal = equal_is (R other x) one in
      let k-other : R k other ≡ Equal = equal_is (R k other) two in
      let same : R k x ≡ R other x = total.congr k other x k-other in
      absurd cc

  lookup-put_at : {V : Type 0} (k other : K) (v : V) (e : K × V) (es : List (K × V)) (o : Ordering) → R k e.0 ≡ o
      → lookup (is_at (R other)) (insert_entry R es k v) ≡ cond (is_eq (R k other)) (Some v) (lookup (is_at (R other)) es)
      → lookup (is_at (R other)) (insert_entry R (e ∷ es) k v) ≡ cond (is_eq (R k other)) (Some v) (lookup (is_at (R other)) (e ∷ es))
  lookup-put_at {V} k other v e es Less is rest =
      rw is (ap (λ (b : Bool). cond b (Some v) (lookup (is_at (R other)) (e ∷ es))) (eq-sym other k))
  lookup-put_at k other v e es Equal is rest =
      rw is (in_place (is_eq (R k other)) (is_eq (R other e.0)) v e.1 (lookup (is_at (R other)) es) (eq-alike k e.0 other is))
  lookup-put_at {V} k other v e es Greater is rest =
      rw is (ap (λ (o : Option V). cond (is_eq (R other e.0)) (Some e.1) o) rest
      ∙ behind_other (is_eq (R k other)) (is_eq (R other e.0)) v e.1 (lookup (is_at (R other)) es) (apart_from k e.0 other is))

  -- the row that was put is found at its key, and each other as before
  pub lookup-put : {V : Type 0} (k other : K) (v : V) (es : List (K × V))
      → lookup (is_at (R other)) (insert_entry R es k v) ≡ cond (is_eq (R k other)) (Some v) (lookup (is_at (R other)) es)
  lookup-put k other v [] = ap (λ (b : Bool). cond b (Some v) None) (eq-sym other k)
  lookup-put k other v (e ∷ es) = lookup-put_at k other v e es _ refl (lookup-put k other v es)

  -- a key before all keys of the rows is not found
  none-behind : {V : Type 0} (k other : K) (es : List (K × V)) → R other k ≡ Equal → AllByRecursion (λ (y : K). R k y ≡ Less) (keys_of es) → lookup (is_at (R other)) es ≡ None
  none-behind k other [] same less = refl
  none-behind k other (e ∷ es) same less =
      let is : R other e.0 ≡ Less = total.congr other k e.0 same ∙ less.0 in
      rw is (none-behind k other es same less.1)

  took-this : {V : Type 0} (k other : K) (e : K × V) (es : List (K × V)) (b c : Bool) → is_eq (R k other) ≡ b → is_eq (R other e.0) ≡ c → R k e.0 ≡ Equal → AllByRecursion (λ (y : K). R e.0 y ≡ Less) (keys_of es)
      → lookup (is_at (R other)) es ≡ cond b None (cond c (Some e.1) (lookup (is_at (R other)) es))
  took-this k other e es true c b-is c-is same less =
      none-behind e.0 other es (equal_is (R other e.0) (eq-alike k e.0 other same ∙ b-is)) less
  took-this k other e es false true b-is c-is same less = let no : true ≡ false = sym c-is ∙ eq-alike k e.0 other same ∙ b-is in absurd cc
  took-this k other e es false false b-is c-is same less = refl

  took-behind : {V : Type 0} (k other : K) (w : V) (x : K) (rest : Option V) (b c : Bool) → is_eq (R k other) ≡ b → is_eq (R other x) ≡ c → is_eq (R k x) ≡ false
      → cond c (Some w) (cond b None rest) ≡ cond b None (cond c (Some w) rest)
  took-behind k other w x rest true true b-is c-is apart =
      let no : is_eq (R k x) ≡ true = ap is_eq (total.congr k other x (equal_is (R k other) b-is)) ∙ c-is in
      absurd cc
  took-behind k other w x rest true false b-is c-is apart = refl
  took-behind k other w x rest false c b-is c-is apart = refl

  lookup-take_at : {V : Type 0} (k other : K) (e : K × V) (es : List (K × V)) (b : Bool) → is_eq (R k e.0) ≡ b → AllByRecursion (λ (y : K). R e.0 y ≡ Less) (keys_of es)
      → lookup (is_at (R other)) (remove_entry (is_at (R k)) es) ≡ cond (is_eq (R k other)) None (lookup (is_at (R other)) es)
      → lookup (is_at (R other)) (remove_entry (is_at (R k)) (e ∷ es)) ≡ cond (is_eq (R k other)) None (lookup (is_at (R other)) (e ∷ es))
  lookup-take_at k other e es true is less rest =
      rw is (took-this k other e es _ _ refl refl (equal_is (R k e.0) is) less)
  lookup-take_at {V} k other e es false is less rest =
      rw is (ap (λ (o : Option V). cond (is_eq (R other e.0)) (Some e.1) o) rest ∙ took-behind k other e.1 e.0 (lookup (is_at (R other)) es) _ _ refl refl is)

  -- the row that was taken is found no more, and each other as before
  pub lookup-take : {V : Type 0} (k other : K) (es : List (K × V)) → AreRows R es
      → lookup (is_at (R other)) (remove_entry (is_at (R k)) es) ≡ cond (is_eq (R k other)) None (lookup (is_at (R other)) es)
  unfolding IsStrictlySortedBy
  lookup-take k other [] sorted = nothing (is_eq (R k other)) None refl
  lookup-take k other (e ∷ es) sorted = lookup-take_at k other e es _ refl sorted.0 (lookup-take k other es sorted.1)

-- where the keys are texts, they are found as texts
pub lookup-text : {V : Type 0} (k : List ℕ) (es : List (List ℕ × V)) → lookup (is_at (slice_cmp nat_cmp k)) es ≡ lookup (bytes_eq k) es
lookup-text k es = lookup-by (is_at (slice_cmp nat_cmp k)) (bytes_eq k) es (λ other. is_eq-slice_cmp k other)

-- one text has another row, or none; each other as before
pub found-text : {V : Type 0} (k other : List ℕ) (one : Option V) (old new : List (List ℕ × V))
    → lookup (is_at (slice_cmp nat_cmp other)) new ≡ cond (is_eq (slice_cmp nat_cmp k other)) one (lookup (is_at (slice_cmp nat_cmp other)) old)
    → lookup (bytes_eq other) new ≡ cond (bytes_eq k other) one (lookup (bytes_eq other) old)
found-text {V} k other one old new is =
    sym (lookup-text other new) ∙ is
    ∙ ap (λ (b : Bool). cond b one (lookup (is_at (slice_cmp nat_cmp other)) old)) (is_eq-slice_cmp k other)
    ∙ ap (λ (o : Option V). cond (bytes_eq k other) one o) (lookup-text other old)
