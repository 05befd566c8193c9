-- One chunk among its rows: what is found, put or taken there is so in all rows.
use Rattle.std.proofs.Common.{◌≡◌, ◌≤◌, ◌<◌, ◌-◌, ℕ, zero, suc, pred, Bool, true, false, not, List, [], ◌∷◌, ◌++◌}
use Rattle.std.proofs.Common.{length, get_or, take, drop, set, slice_get, None, Vec, Global, Ordering, Less, Equal}
use Rattle.std.proofs.Common.{Greater, is_eq, is_lt, refl, sym, ap, ◌∙◌, subst, true≢false, append_assoc, arith}
use Rattle.std.specs.BTreeMap.{insert_entry, is_at}
use Rattle.std.specs.Cmp.{IsTotalOrder}
use Rattle.std.specs.List.{AllByRecursion, AllWithin}
use Rattle.std.specs.List.Sorted.{IsPartitionedBy, IsStrictlySortedBy}
use Rattle.std.specs.Map.{keys_of, lookup, remove_entry}
use Rattle.std.specs.Ordering.{ordering_reverse}
use Rattle.ordered_index.specs.Rows.{AreRows, row_after}
use Rattle.ordered_index.specs.Chunks.{AreBefore, AreBehind, AreFilled, IsChunkOf, or_next, rows_of, starts_by}

module _ {K V : Type 0} (R : K → K → Ordering) (k : K) where
  pub value-past : (xs ys : List (K × V)) → AreBefore R k xs → lookup (is_at (R k)) (xs ++ ys) ≡ lookup (is_at (R k)) ys
  value-past [] ys all = refl
  value-past (x ∷ xs) ys all = rw all.0 (value-past xs ys all.1)

  value-none : (ys : List (K × V)) → AreBehind R k ys → lookup (is_at (R k)) ys ≡ None
  value-none [] all = refl
  value-none (y ∷ ys) all = rw all.0 (value-none ys all.1)

  value-short_at : (x : K × V) (xs ys : List (K × V)) (b : Bool) → is_eq (R k x.0) ≡ b → lookup (is_at (R k)) (xs ++ ys) ≡ lookup (is_at (R k)) xs → lookup (is_at (R k)) ((x ∷ xs) ++ ys) ≡ lookup (is_at (R k)) (x ∷ xs)
  value-short_at x xs ys true is rest = rw is refl
  value-short_at x xs ys false is rest = rw is rest

  pub value-short : (xs ys : List (K × V)) → AreBehind R k ys → lookup (is_at (R k)) (xs ++ ys) ≡ lookup (is_at (R k)) xs
  value-short [] ys all = value-none ys all
  value-short (x ∷ xs) ys all = value-short_at x xs ys _ refl (value-short xs ys all)

  pub put-past : (v : V) (xs ys : List (K × V)) → AreBefore R k xs → insert_entry R (xs ++ ys) k v ≡ xs ++ insert_entry R ys k v
  put-past v [] ys all = refl
  put-past v (x ∷ xs) ys all = rw all.0 (ap (λ (l : List (K × V)). x ∷ l) (put-past v xs ys all.1))

  put-short_at : (v : V) (x : K × V) (xs ys : List (K × V)) (o : Ordering) → R k x.0 ≡ o → insert_entry R (xs ++ ys) k v ≡ insert_entry R xs k v ++ ys → insert_entry R ((x ∷ xs) ++ ys) k v ≡ insert_entry R (x ∷ xs) k v ++ ys
  put-short_at v x xs ys Less is rest = rw is refl
  put-short_at v x xs ys Equal is rest = rw is refl
  put-short_at v x xs ys Greater is rest = rw is (ap (λ (l : List (K × V)). x ∷ l) rest)

  pub put-short : (v : V) (xs ys : List (K × V)) → AreBehind R k ys → insert_entry R (xs ++ ys) k v ≡ insert_entry R xs k v ++ ys
  put-short v [] [] all = refl
  put-short v [] (y ∷ ys) all = rw all.0 refl
  put-short v (x ∷ xs) ys all = put-short_at v x xs ys _ refl (put-short v xs ys all)

  pub take-past : (xs ys : List (K × V)) → AreBefore R k xs → remove_entry (is_at (R k)) (xs ++ ys) ≡ xs ++ remove_entry (is_at (R k)) ys
  take-past [] ys all = refl
  take-past (x ∷ xs) ys all = rw all.0 (ap (λ (l : List (K × V)). x ∷ l) (take-past xs ys all.1))

  take-none : (ys : List (K × V)) → AreBehind R k ys → remove_entry (is_at (R k)) ys ≡ ys
  take-none [] all = refl
  take-none (y ∷ ys) all = rw all.0 (ap (λ (l : List (K × V)). y ∷ l) (take-none ys all.1))

  take-short_at : (x : K × V) (xs ys : List (K × V)) (b : Bool) → is_eq (R k x.0) ≡ b → remove_entry (is_at (R k)) (xs ++ ys) ≡ remove_entry (is_at (R k)) xs ++ ys → remove_entry (is_at (R k)) ((x ∷ xs) ++ ys) ≡ remove_entry (is_at (R k)) (x ∷ xs) ++ ys
  take-short_at x xs ys true is rest = rw is refl
  take-short_at x xs ys false is rest = rw is (ap (λ (l : List (K × V)). x ∷ l) rest)

  pub take-short : (xs ys : List (K × V)) → AreBehind R k ys → remove_entry (is_at (R k)) (xs ++ ys) ≡ remove_entry (is_at (R k)) xs ++ ys
  take-short [] ys all = take-none ys all
  take-short (x ∷ xs) ys all = take-short_at x xs ys _ refl (take-short xs ys all)

  after-past : (xs ys : List (K × V)) → AreBefore R k xs → row_after R k (xs ++ ys) ≡ row_after R k ys
  after-past [] ys all = refl
  after-past (x ∷ xs) ys all = rw all.0 (after-past xs ys all.1)

  after-short_at : (x : K × V) (xs ys : List (K × V)) (b : Bool) → is_lt (R k x.0) ≡ b → row_after R k (xs ++ ys) ≡ or_next (row_after R k xs) (slice_get ys zero) → row_after R k ((x ∷ xs) ++ ys) ≡ or_next (row_after R k (x ∷ xs)) (slice_get ys zero)
  after-short_at x xs ys true is rest = rw is refl
  after-short_at x xs ys false is rest = rw is rest

  after-short : (xs ys : List (K × V)) → AreBehind R k ys → row_after R k (xs ++ ys) ≡ or_next (row_after R k xs) (slice_get ys zero)
  after-short [] [] all = refl
  after-short [] (y ∷ ys) all = rw all.0 refl
  after-short (x ∷ xs) ys all = after-short_at x xs ys _ refl (after-short xs ys all)

pub rows-parts : {K V : Type 0} (cs : List (Vec (K × V) Global)) (i : ℕ) (d : Vec (K × V) Global) → i < length cs → rows_of cs ≡ rows_of (take i cs) ++ ((get_or cs i d).items ++ rows_of (drop (suc i) cs))
rows-parts [] i d less = absurd (omega (arith, less))
rows-parts (c ∷ cs) zero d less = refl
rows-parts (c ∷ cs) (suc i) d less = ap (λ l. c.items ++ l) (rows-parts cs i d (omega (arith, less))) ∙ sym (append_assoc c.items (rows_of (take i cs)) ((get_or cs i d).items ++ rows_of (drop (suc i) cs)))

pub rows-set : {K V : Type 0} (cs : List (Vec (K × V) Global)) (i : ℕ) (c : Vec (K × V) Global) → i < length cs → rows_of (set cs i c) ≡ rows_of (take i cs) ++ (c.items ++ rows_of (drop (suc i) cs))
rows-set [] i c less = absurd (omega (arith, less))
rows-set (x ∷ cs) zero c less = refl
rows-set (x ∷ cs) (suc i) c less = ap (λ l. x.items ++ l) (rows-set cs i c (omega (arith, less))) ∙ sym (append_assoc x.items (rows_of (take i cs)) (c.items ++ rows_of (drop (suc i) cs)))

module _ {K V : Type 0} (R : K → K → Ordering) (k : K) (cs : List (Vec (K × V) Global)) (i : ℕ) (d : Vec (K × V) Global) (is : IsChunkOf R k cs i) where
  pub value-chunk : lookup (is_at (R k)) (rows_of cs) ≡ lookup (is_at (R k)) (get_or cs i d).items
  value-chunk = ap (lookup (is_at (R k))) (rows-parts cs i d is.at) ∙ value-past R k (rows_of (take i cs)) _ is.before ∙ value-short R k (get_or cs i d).items _ is.behind

  pub put-chunk : (v : V) (c : Vec (K × V) Global) → c.items ≡ insert_entry R (get_or cs i d).items k v → rows_of (set cs i c) ≡ insert_entry R (rows_of cs) k v
  put-chunk v c items =
      rows-set cs i c is.at ∙ ap (λ l. rows_of (take i cs) ++ (l ++ rows_of (drop (suc i) cs))) items ∙ ap (λ l. rows_of (take i cs) ++ l) (sym (put-short R k v (get_or cs i d).items _ is.behind)) ∙ sym (put-past R k v (rows_of (take i cs)) _ is.before) ∙ ap (λ l. insert_entry R l k v) (sym (rows-parts cs i d is.at))

  pub take-chunk : (c : Vec (K × V) Global) → c.items ≡ remove_entry (is_at (R k)) (get_or cs i d).items → rows_of (set cs i c) ≡ remove_entry (is_at (R k)) (rows_of cs)
  take-chunk c items =
      rows-set cs i c is.at ∙ ap (λ l. rows_of (take i cs) ++ (l ++ rows_of (drop (suc i) cs))) items ∙ ap (λ l. rows_of (take i cs) ++ l) (sym (take-short R k (get_or cs i d).items _ is.behind)) ∙ sym (take-past R k (rows_of (take i cs)) _ is.before) ∙ ap (remove_entry (is_at (R k))) (sym (rows-parts cs i d is.at))

  pub after-chunk : row_after R k (rows_of cs) ≡ or_next (row_after R k (get_or cs i d).items) (slice_get (rows_of (drop (suc i) cs)) zero)
  after-chunk = ap (row_after R k) (rows-parts cs i d is.at) ∙ after-past R k (rows_of (take i cs)) _ is.before ∙ after-short R k (get_or cs i d).items _ is.behind

all-mid : {K V : Type 0} (P : K → Type 0) (xs : List (K × V)) (f : K × V) (ys : List (K × V)) → AllByRecursion P (keys_of (xs ++ (f ∷ ys))) → P f.0
all-mid P [] f ys all = all.0
all-mid P (x ∷ xs) f ys all = all-mid P xs f ys all.1

all-left : {K V : Type 0} (P : K → Type 0) (xs ys : List (K × V)) → AllByRecursion P (keys_of (xs ++ ys)) → AllByRecursion P (keys_of xs)
all-left P [] ys all = tt
all-left P (x ∷ xs) ys all = (all.0, all-left P xs ys all.1)

pub sorted-left : {K V : Type 0} (R : K → K → Ordering) (xs ys : List (K × V)) → AreRows R (xs ++ ys) → AreRows R xs
unfolding IsStrictlySortedBy
sorted-left R [] ys sorted = tt
sorted-left {K} R (x ∷ xs) ys sorted = (all-left (λ (y : K). R x.0 y ≡ Less) xs ys sorted.0, sorted-left R xs ys sorted.1)

pub sorted-right : {K V : Type 0} (R : K → K → Ordering) (xs ys : List (K × V)) → AreRows R (xs ++ ys) → AreRows R ys
unfolding IsStrictlySortedBy
sorted-right R [] ys sorted = sorted
sorted-right R (x ∷ xs) ys sorted = sorted-right R xs ys sorted.1

not-less_at : {K : Type 0} {R : K → K → Ordering} (total : IsTotalOrder R) (k x f : K) (o : Ordering) → R k f ≡ o → is_lt o ≡ false → R x f ≡ Less → R k x ≡ Greater
not-less_at total k x f Less is past less = absurd (true≢false past)
not-less_at total k x f Equal is past less = total.congr k f x is ∙ total.antisymm f x ∙ ap ordering_reverse less
not-less_at total k x f Greater is past less = total.antisymm k x ∙ ap ordering_reverse (total.trans x f k less (total.antisymm f k ∙ ap ordering_reverse is))

before-head : {K V : Type 0} {R : K → K → Ordering} (total : IsTotalOrder R) (k : K) (xs : List (K × V)) (f : K × V) (ys : List (K × V)) → AreRows R (xs ++ (f ∷ ys)) → is_lt (R k f.0) ≡ false → AreBefore R k xs
unfolding IsStrictlySortedBy
before-head total k [] f ys sorted past = tt
before-head {K} {V} {R} total k (x ∷ xs) f ys sorted past = (not-less_at total k x.0 f.0 _ refl past (all-mid (λ (y : K). R x.0 y ≡ Less) xs f ys sorted.0), before-head total k xs f ys sorted.1 past)

pub behind-rows : {K V : Type 0} {R : K → K → Ordering} (total : IsTotalOrder R) (k x : K) (ys : List (K × V)) → R k x ≡ Less → AllByRecursion (λ (y : K). R x y ≡ Less) (keys_of ys) → AreBehind R k ys
behind-rows total k x [] less all = tt
behind-rows total k x (y ∷ ys) less all = (total.trans k x y.0 less all.0, behind-rows total k x ys less all.1)

behind-head : {K V : Type 0} {R : K → K → Ordering} (total : IsTotalOrder R) (k : K) (f : K × V) (ys : List (K × V)) → AreRows R (f ∷ ys) → R k f.0 ≡ Less → AreBehind R k (f ∷ ys)
unfolding IsStrictlySortedBy
behind-head total k f ys sorted less = (less, behind-rows total k f.0 ys less sorted.0)

lt-is : (o : Ordering) → not (is_lt o) ≡ false → o ≡ Less
lt-is Less is = refl
lt-is Equal is = absurd (true≢false is)
lt-is Greater is = absurd (true≢false is)

lt-not : (o : Ordering) → not (is_lt o) ≡ true → is_lt o ≡ false
lt-not Less is = absurd (true≢false (sym is))
lt-not Equal is = refl
lt-not Greater is = refl

module _ {K V : Type 0} {R : K → K → Ordering} (total : IsTotalOrder R) (k : K) where
  pub behind-first : (es ys : List (K × V)) → 0 < length es → AreRows R (es ++ ys) → starts_by R k es ≡ false → AreBehind R k (es ++ ys)
  behind-first [] ys some sorted starts = absurd (omega (arith, some))
  behind-first (e ∷ es) ys some sorted starts = behind-head total k e (es ++ ys) sorted (lt-is (R k e.0) starts)

  pub behind-from : (cs : List (Vec (K × V) Global)) (j : ℕ) → AreFilled cs → AreRows R (rows_of cs) → ((d : Vec (K × V) Global) → j < length cs → starts_by R k (get_or cs j d).items ≡ false) → AreBehind R k (rows_of (drop j cs))
  behind-from [] zero filled sorted starts = tt
  behind-from [] (suc j) filled sorted starts = tt
  behind-from (c ∷ cs) zero filled sorted starts = behind-first c.items (rows_of cs) (filled zero c (omega arith)) sorted (starts c (omega arith))
  behind-from (c ∷ cs) (suc j) filled sorted starts =
      behind-from cs j (λ n d less. filled (suc n) d (omega (arith, less))) (sorted-right R c.items (rows_of cs) sorted) (λ d less. starts d (omega (arith, less)))

  pub before-first : (xs es ys : List (K × V)) → AreRows R (xs ++ (es ++ ys)) → starts_by R k es ≡ true → AreBefore R k xs
  before-first xs [] ys sorted starts = absurd (true≢false (sym starts))
  before-first xs (e ∷ es) ys sorted starts = before-head total k xs e (es ++ ys) sorted (lt-not (R k e.0) starts)

  pub chunk-place : (cs : List (Vec (K × V) Global)) (d : Vec (K × V) Global) (n : ℕ) → 0 < length cs → n ≤ length cs → AreFilled cs → AreRows R (rows_of cs)
      → AllWithin (λ (c : Vec (K × V) Global). starts_by R k c.items ≡ true) cs 0 n → AllWithin (λ (c : Vec (K × V) Global). starts_by R k c.items ≡ false) cs n (length cs) → IsChunkOf R k cs (pred n)
  chunk-place cs d zero some most filled sorted starts later = record {
    at = some;
    before = tt;
    behind = behind-from cs (suc zero) filled sorted (λ e less. later (suc zero) e (omega arith) less);
  }
  chunk-place cs d (suc m) some most filled sorted starts later = record {
    at = omega (arith, most);
    before = before-first (rows_of (take m cs)) (get_or cs m d).items (rows_of (drop (suc m) cs)) (subst (AreRows R) (rows-parts cs m d (omega (arith, most))) sorted) (starts m d (omega arith) (omega arith));
    behind = behind-from cs (suc m) filled sorted (λ e less. later (suc m) e (omega arith) less);
  }

pub chunk-sorted : {K V : Type 0} (R : K → K → Ordering) (cs : List (Vec (K × V) Global)) (i : ℕ) (d : Vec (K × V) Global) → i < length cs → AreRows R (rows_of cs) → AreRows R (get_or cs i d).items
chunk-sorted R cs i d less sorted =
    sorted-left R (get_or cs i d).items (rows_of (drop (suc i) cs)) (sorted-right R (rows_of (take i cs)) _ (subst (AreRows R) (rows-parts cs i d less) sorted))

parted-chunks-first : {K V : Type 0} {R : K → K → Ordering} (total : IsTotalOrder R) (k : K) (es xs : List (K × V)) (f : K × V) (ys : List (K × V)) → 0 < length es → AreRows R (es ++ (xs ++ (f ∷ ys))) → not (is_lt (R k f.0)) ≡ true → starts_by R k es ≡ true
unfolding IsStrictlySortedBy
parted-chunks-first total k [] xs f ys some sorted starts = absurd (omega (arith, some))
parted-chunks-first {K} {V} {R} total k (e ∷ es) xs f ys some sorted starts =
    let less = all-mid (λ (y : K). R e.0 y ≡ Less) (es ++ xs) f ys (subst (λ (l : List (K × V)). AllByRecursion (λ (y : K). R e.0 y ≡ Less) (keys_of l)) (sym (append_assoc es xs (f ∷ ys))) sorted.0) in
    ap (λ o. not (is_lt o)) (not-less_at total k e.0 f.0 _ refl (lt-not (R k f.0) starts) less)

starts-first : {K V : Type 0} {R : K → K → Ordering} (total : IsTotalOrder R) (k : K) (es xs fs ys : List (K × V)) → 0 < length es → AreRows R (es ++ (xs ++ (fs ++ ys))) → starts_by R k fs ≡ true → starts_by R k es ≡ true
starts-first total k es xs [] ys some sorted starts = absurd (true≢false (sym starts))
starts-first total k es xs (f ∷ fs) ys some sorted starts = parted-chunks-first total k es xs f (fs ++ ys) some sorted starts

pub chunks-parted : {K V : Type 0} {R : K → K → Ordering} (total : IsTotalOrder R) (k : K) (cs : List (Vec (K × V) Global)) → AreFilled cs → AreRows R (rows_of cs) → IsPartitionedBy (λ (c : Vec (K × V) Global). starts_by R k c.items) cs
chunks-parted total k [] filled sorted i j d le less is = absurd (omega (arith, less))
chunks-parted total k (c ∷ cs) filled sorted zero zero d le less is = is
chunks-parted {K} {V} {R} total k (c ∷ cs) filled sorted zero (suc j) d le less is =
    starts-first total k c.items (rows_of (take j cs)) (get_or cs j d).items (rows_of (drop (suc j) cs)) (filled zero c (omega arith)) (subst (λ (l : List (K × V)). AreRows R (c.items ++ l)) (rows-parts cs j d (omega (arith, less))) sorted) is
chunks-parted total k (c ∷ cs) filled sorted (suc i) zero d le less is = absurd (omega (arith, le))
chunks-parted {K} {V} {R} total k (c ∷ cs) filled sorted (suc i) (suc j) d le less is =
    chunks-parted total k cs (λ n e fewer. filled (suc n) e (omega (arith, fewer))) (sorted-right R c.items (rows_of cs) sorted) i j d (omega (arith, le)) (omega (arith, less)) is

pub place-of : {K V : Type 0} {R : K → K → Ordering} (total : IsTotalOrder R) (k : K) (cs : List (Vec (K × V) Global)) (n i : ℕ) → i ≡ n - 1 → 0 < length cs → n ≤ length cs → AreFilled cs → AreRows R (rows_of cs)
    → AllWithin (λ (c : Vec (K × V) Global). starts_by R k c.items ≡ true) cs 0 n → AllWithin (λ (c : Vec (K × V) Global). starts_by R k c.items ≡ false) cs n (length cs) → IsChunkOf R k cs i
place-of total k [] n i is some most filled sorted starts later = absurd (omega (arith, some))
place-of {K} {V} {R} total k (c ∷ cs) zero i is some most filled sorted starts later =
    let at : 0 ≡ i = omega (arith, is) in subst (IsChunkOf R k (c ∷ cs)) at (chunk-place total k (c ∷ cs) c zero some most filled sorted starts later)
place-of {K} {V} {R} total k (c ∷ cs) (suc m) i is some most filled sorted starts later =
    let at : m ≡ i = omega (arith, is) in subst (IsChunkOf R k (c ∷ cs)) at (chunk-place total k (c ∷ cs) c (suc m) some most filled sorted starts later)
