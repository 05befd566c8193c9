-- Texts are ordered as the numbers that their bytes write.
use Rattle.std.proofs.Common.{◌≡◌, ◌<◌, ◌≤◌, ◌+◌, ◌*◌, ◌∙◌, ◌++◌, ℕ, zero, suc, List, [], ◌∷◌, length, get_or, take}
use Rattle.std.proofs.Common.{drop, replicate, sym, ap, refl, true, false, true≢false, drop-cons, drop-drop}
use Rattle.std.proofs.Common.{length-drop, length-take, arith}
use Rattle.std.specs.Cmp.Lexicographic.{slice_cmp}
use Rattle.std.specs.Cmp.{nat_cmp_is, ranked}
use Rattle.std.specs.Ordering.{MatchOrdering, is_ne, nat_cmp, ordering_then}
use Rattle.std.specs.declared.cmp.Ordering.{Ordering}
use Rattle.std.specs.declared.cmp.Ordering.TheVariants.{Less, Equal, Greater}
use Rattle.dsn_mask.specs.Inner.Text.{padded}
use Rattle.dsn_mask.specs.Inner.Words.{number_behind, number_of}

pub then-assoc : (a b c : Ordering) → ordering_then (ordering_then a b) c ≡ ordering_then a (ordering_then b c)
then-assoc Less b c = refl
then-assoc Equal b c = refl
then-assoc Greater b c = refl

pub then-equal : (a : Ordering) → ordering_then a Equal ≡ a
then-equal Less = refl
then-equal Equal = refl
then-equal Greater = refl

-- one digit more
digit : (n m x y : ℕ) → x < 256 → y < 256 → nat_cmp (n * 256 + x) (m * 256 + y) ≡ ordering_then (nat_cmp n m) (nat_cmp x y)
digit n m x y small few = by (nat_cmp n m) (ranked n m (nat_cmp n m) refl) (nat_cmp x y) (ranked x y (nat_cmp x y) refl)
  where
    by : (r : Ordering) → MatchOrdering r (n < m) (n ≡ m) (m < n) → (s : Ordering) → MatchOrdering s (x < y) (x ≡ y) (y < x) → nat_cmp (n * 256 + x) (m * 256 + y) ≡ ordering_then r s
    by Less h s k = let l : n < m = h in sym (nat_cmp_is (n * 256 + x) (m * 256 + y) Less (omega (arith, l, small, few)))
    by Greater h s k = let l : m < n = h in sym (nat_cmp_is (n * 256 + x) (m * 256 + y) Greater (omega (arith, l, small, few)))
    by Equal h Less k = let e : n ≡ m = h in let l : x < y = k in sym (nat_cmp_is (n * 256 + x) (m * 256 + y) Less (omega (arith, e, l)))
    by Equal h Equal k = let e : n ≡ m = h in let l : x ≡ y = k in sym (nat_cmp_is (n * 256 + x) (m * 256 + y) Equal (omega (arith, e, l)))
    by Equal h Greater k = let e : n ≡ m = h in let l : y < x = k in sym (nat_cmp_is (n * 256 + x) (m * 256 + y) Greater (omega (arith, e, l)))

abbrev pub AreBytes : List ℕ → Type 0
AreBytes xs = (i : ℕ) → get_or xs i 0 < 256

behind-order : (n m : ℕ) (xs ys : List ℕ) → length xs ≡ length ys → AreBytes xs → AreBytes ys → nat_cmp (number_behind n xs) (number_behind m ys) ≡ ordering_then (nat_cmp n m) (slice_cmp nat_cmp xs ys)
behind-order n m [] [] same small few = sym (then-equal (nat_cmp n m))
behind-order n m [] (y ∷ ys) same small few = absurd (omega (arith, same))
behind-order n m (x ∷ xs) [] same small few = absurd (omega (arith, same))
behind-order n m (x ∷ xs) (y ∷ ys) same small few =
    behind-order (n * 256 + x) (m * 256 + y) xs ys (omega (arith, same)) (λ i. small (suc i)) (λ i. few (suc i))
    ∙ ap (λ r. ordering_then r (slice_cmp nat_cmp xs ys)) (digit n m x y (small 0) (few 0))
    ∙ then-assoc (nat_cmp n m) (nat_cmp x y) (slice_cmp nat_cmp xs ys)

pub number-order : (xs ys : List ℕ) → length xs ≡ length ys → AreBytes xs → AreBytes ys → nat_cmp (number_of xs) (number_of ys) ≡ slice_cmp nat_cmp xs ys
number-order xs ys same small few = behind-order 0 0 xs ys same small few

-- the fronts decide, and else what is behind them
pub cut-order : (n : ℕ) (xs ys : List ℕ) → n ≤ length xs → n ≤ length ys
    → slice_cmp nat_cmp xs ys ≡ ordering_then (slice_cmp nat_cmp (take n xs) (take n ys)) (slice_cmp nat_cmp (drop n xs) (drop n ys))
cut-order zero xs ys some more = refl
cut-order (suc n) [] ys some more = absurd (omega (arith, some))
cut-order (suc n) (x ∷ xs) [] some more = absurd (omega (arith, more))
cut-order (suc n) (x ∷ xs) (y ∷ ys) some more =
    ap (ordering_then (nat_cmp x y)) (cut-order n xs ys (omega (arith, some)) (omega (arith, more)))
    ∙ sym (then-assoc (nat_cmp x y) (slice_cmp nat_cmp (take n xs) (take n ys)) (slice_cmp nat_cmp (drop n xs) (drop n ys)))

pub byte-same : (x : ℕ) → nat_cmp x x ≡ Equal
byte-same x = sym (nat_cmp_is x x Equal refl)

pub text-same : (xs : List ℕ) → slice_cmp nat_cmp xs xs ≡ Equal
text-same [] = refl
text-same (x ∷ xs) = ap (λ r. ordering_then r (slice_cmp nat_cmp xs xs)) (byte-same x) ∙ text-same xs

unpadded : (n : ℕ) → padded n [] ≡ replicate n 0
unpadded n = ap (λ k. replicate k 0) (omega arith)

padded-more : (n x : ℕ) (xs : List ℕ) → padded (suc n) (x ∷ xs) ≡ x ∷ padded n xs
padded-more n x xs = ap (λ k. x ∷ (xs ++ replicate k 0)) (omega arith)

zero-less : (n : ℕ) → nat_cmp 0 (suc n) ≡ Less
zero-less n = sym (nat_cmp_is 0 (suc n) Less (omega arith))

some-greater : (n : ℕ) → nat_cmp (suc n) 0 ≡ Greater
some-greater n = sym (nat_cmp_is (suc n) 0 Greater (omega arith))

-- zeros stand behind no text
zeros-less : (n : ℕ) (ys : List ℕ) → length ys ≤ n → ordering_then (slice_cmp nat_cmp (replicate n 0) (padded n ys)) Less ≡ Less
zeros-less n [] few =
    ap (λ l. ordering_then (slice_cmp nat_cmp (replicate n 0) l) Less) (unpadded n) ∙ ap (λ r. ordering_then r Less) (text-same (replicate n 0))
zeros-less zero (y ∷ ys) few = absurd (omega (arith, few))
zeros-less (suc n) (zero ∷ ys) few =
    ap (λ l. ordering_then (slice_cmp nat_cmp (replicate (suc n) 0) l) Less) (padded-more n zero ys)
    ∙ ap (λ r. ordering_then (ordering_then r (slice_cmp nat_cmp (replicate n 0) (padded n ys))) Less) (byte-same zero)
    ∙ zeros-less n ys (omega (arith, few))
zeros-less (suc n) (suc y ∷ ys) few =
    ap (λ l. ordering_then (slice_cmp nat_cmp (replicate (suc n) 0) l) Less) (padded-more n (suc y) ys)
    ∙ ap (λ r. ordering_then (ordering_then r (slice_cmp nat_cmp (replicate n 0) (padded n ys))) Less) (zero-less y)

zeros-greater : (n : ℕ) (xs : List ℕ) → length xs ≤ n → ordering_then (slice_cmp nat_cmp (padded n xs) (replicate n 0)) Greater ≡ Greater
zeros-greater n [] few =
    ap (λ l. ordering_then (slice_cmp nat_cmp l (replicate n 0)) Greater) (unpadded n) ∙ ap (λ r. ordering_then r Greater) (text-same (replicate n 0))
zeros-greater zero (x ∷ xs) few = absurd (omega (arith, few))
zeros-greater (suc n) (zero ∷ xs) few =
    ap (λ l. ordering_then (slice_cmp nat_cmp l (replicate (suc n) 0)) Greater) (padded-more n zero xs)
    ∙ ap (λ r. ordering_then (ordering_then r (slice_cmp nat_cmp (padded n xs) (replicate n 0))) Greater) (byte-same zero)
    ∙ zeros-greater n xs (omega (arith, few))
zeros-greater (suc n) (suc x ∷ xs) few =
    ap (λ l. ordering_then (slice_cmp nat_cmp l (replicate (suc n) 0)) Greater) (padded-more n (suc x) xs)
    ∙ ap (λ r. ordering_then (ordering_then r (slice_cmp nat_cmp (padded n xs) (replicate n 0))) Greater) (some-greater x)

lengths-order : (m n : ℕ) → nat_cmp m n ≡ nat_cmp (suc m) (suc n)
lengths-order m n = by (nat_cmp m n) (ranked m n (nat_cmp m n) refl)
  where
    by : (r : Ordering) → MatchOrdering r (m < n) (m ≡ n) (n < m) → r ≡ nat_cmp (suc m) (suc n)
    by Less h = let l : m < n = h in nat_cmp_is (suc m) (suc n) Less (omega (arith, l))
    by Equal h = let e : m ≡ n = h in nat_cmp_is (suc m) (suc n) Equal (omega (arith, e))
    by Greater h = let l : n < m = h in nat_cmp_is (suc m) (suc n) Greater (omega (arith, l))

-- the texts filled up with zeros decide, and else the lengths do
pub padded-order : (n : ℕ) (xs ys : List ℕ) → length xs ≤ n → length ys ≤ n
    → slice_cmp nat_cmp xs ys ≡ ordering_then (slice_cmp nat_cmp (padded n xs) (padded n ys)) (nat_cmp (length xs) (length ys))
padded-order n [] [] some more = sym (ap (λ r. ordering_then r (nat_cmp 0 0)) (text-same (padded n [])) ∙ byte-same 0)
padded-order n [] (y ∷ ys) some more =
    sym (ap (λ l. ordering_then (slice_cmp nat_cmp l (padded n (y ∷ ys))) (nat_cmp 0 (suc (length ys)))) (unpadded n)
    ∙ ap (ordering_then (slice_cmp nat_cmp (replicate n 0) (padded n (y ∷ ys)))) (zero-less (length ys)) ∙ zeros-less n (y ∷ ys) more)
padded-order n (x ∷ xs) [] some more =
    sym (ap (λ l. ordering_then (slice_cmp nat_cmp (padded n (x ∷ xs)) l) (nat_cmp (suc (length xs)) 0)) (unpadded n)
    ∙ ap (ordering_then (slice_cmp nat_cmp (padded n (x ∷ xs)) (replicate n 0))) (some-greater (length xs)) ∙ zeros-greater n (x ∷ xs) some)
padded-order zero (x ∷ xs) (y ∷ ys) some more = absurd (omega (arith, some))
padded-order (suc n) (x ∷ xs) (y ∷ ys) some more =
    ap (ordering_then (nat_cmp x y)) (padded-order n xs ys (omega (arith, some)) (omega (arith, more)))
    ∙ sym (then-assoc (nat_cmp x y) (slice_cmp nat_cmp (padded n xs) (padded n ys)) (nat_cmp (length xs) (length ys)))
    ∙ (λ i. ordering_then (slice_cmp nat_cmp (sym (padded-more n x xs) i) (sym (padded-more n y ys) i)) (lengths-order (length xs) (length ys) i))

-- two texts by their fields
pub texts-order : (n : ℕ) (b b' : List ℕ) (c c' : ℕ) → c ≡ length (take c b) → b ≡ padded n (take c b) → c' ≡ length (take c' b') → b' ≡ padded n (take c' b')
    → length b ≡ n → length b' ≡ n → slice_cmp nat_cmp (take c b) (take c' b') ≡ ordering_then (slice_cmp nat_cmp b b') (nat_cmp c c')
texts-order n b b' c c' p q p' q' whole full =
    padded-order n (take c b) (take c' b') (omega (arith, length-take c b, whole)) (omega (arith, length-take c' b', full))
    ∙ (λ i. ordering_then (slice_cmp nat_cmp (sym q i) (sym q' i)) (nat_cmp (sym p i) (sym p' i)))

-- n bytes from i + k on, one by one
abbrev reads : List ℕ → ℕ → ℕ → ℕ → List ℕ
reads xs i k zero = []
reads xs i k (suc n) = get_or xs (i + k) 0 ∷ reads xs i (suc k) n

read-out : (n : ℕ) (xs : List ℕ) (i k : ℕ) → i + k + n ≤ length xs → take n (drop (i + k) xs) ≡ reads xs i k n
read-out zero xs i k some = refl
read-out (suc n) xs i k some =
    let next : suc (i + k) ≡ i + suc k = omega arith in
    ap (take (suc n)) (drop-cons xs (i + k) 0 (omega (arith, some)))
    ∙ ap (λ l. get_or xs (i + k) 0 ∷ l) (ap (λ m. take n (drop m xs)) next ∙ read-out n xs i (suc k) (omega (arith, some)))

pub eight-are : (xs : List ℕ) (i : ℕ) → i + 8 ≤ length xs
    → get_or xs i 0 * 72057594037927936 + get_or xs (i + 1) 0 * 281474976710656 + get_or xs (i + 2) 0 * 1099511627776 + get_or xs (i + 3) 0 * 4294967296
    + get_or xs (i + 4) 0 * 16777216 + get_or xs (i + 5) 0 * 65536 + get_or xs (i + 6) 0 * 256 + get_or xs (i + 7) 0 ≡ number_of (take 8 (drop i xs))
eight-are xs i some =
    let here : i + 0 ≡ i = omega arith in
    let first : get_or xs (i + 0) 0 ≡ get_or xs i 0 = ap (λ k. get_or xs k 0) here in
    let spelt : number_of (take 8 (drop i xs)) ≡ number_of (reads xs i 0 8) = ap number_of (ap (λ m. take 8 (drop m xs)) (sym here) ∙ read-out 8 xs i 0 (omega (arith, some))) in
    omega (arith, first) ∙ sym spelt

bytes-take : (n : ℕ) (xs : List ℕ) → AreBytes xs → AreBytes (take n xs)
bytes-take zero xs all i = omega arith
bytes-take (suc n) [] all i = omega arith
bytes-take (suc n) (x ∷ xs) all zero = all 0
bytes-take (suc n) (x ∷ xs) all (suc i) = bytes-take n xs (λ j. all (suc j)) i

bytes-drop : (n : ℕ) (xs : List ℕ) → AreBytes xs → AreBytes (drop n xs)
bytes-drop zero xs all = all
bytes-drop (suc n) [] all = all
bytes-drop (suc n) (x ∷ xs) all = bytes-drop n xs (λ j. all (suc j))

cut-length : (n : ℕ) (xs ys : List ℕ) → length xs ≡ length ys → length (take n xs) ≡ length (take n ys)
cut-length zero xs ys same = refl
cut-length (suc n) [] [] same = refl
cut-length (suc n) [] (y ∷ ys) same = absurd (omega (arith, same))
cut-length (suc n) (x ∷ xs) [] same = absurd (omega (arith, same))
cut-length (suc n) (x ∷ xs) (y ∷ ys) same = ap suc (cut-length n xs ys (omega (arith, same)))

-- the words at a place decide, and else what is behind them
pub word-order : (xs ys : List ℕ) (p : ℕ) (r : Ordering) → p + 8 ≤ length xs → length xs ≡ length ys → AreBytes xs → AreBytes ys
    → r ≡ nat_cmp (number_of (take 8 (drop p xs))) (number_of (take 8 (drop p ys)))
    → slice_cmp nat_cmp (drop p xs) (drop p ys) ≡ ordering_then r (slice_cmp nat_cmp (drop (p + 8) xs) (drop (p + 8) ys))
word-order xs ys p r some same small few is =
    let fits : 8 ≤ length (drop p xs) = omega (arith, length-drop p xs, some) in
    let more : 8 ≤ length (drop p ys) = omega (arith, length-drop p ys, some, same) in
    let level : length (drop p xs) ≡ length (drop p ys) = omega (arith, length-drop p xs, length-drop p ys, same) in
    let words = number-order (take 8 (drop p xs)) (take 8 (drop p ys)) (cut-length 8 (drop p xs) (drop p ys) level) (bytes-take 8 (drop p xs) (bytes-drop p xs small)) (bytes-take 8 (drop p ys) (bytes-drop p ys few)) in
    cut-order 8 (drop p xs) (drop p ys) fits more
    ∙ ap (λ o. ordering_then o (slice_cmp nat_cmp (drop 8 (drop p xs)) (drop 8 (drop p ys)))) (sym words ∙ sym is)
    ∙ ap (ordering_then r) ((λ i. slice_cmp nat_cmp (drop-drop 8 p xs i) (drop-drop 8 p ys i)))

pub then-decided : (r s : Ordering) → is_ne r ≡ true → ordering_then r s ≡ r
then-decided Less s ne = refl
then-decided Equal s ne = absurd (true≢false (sym ne))
then-decided Greater s ne = refl

pub then-level : (r s : Ordering) → is_ne r ≡ false → ordering_then r s ≡ s
then-level Less s eq = absurd (true≢false eq)
then-level Equal s eq = refl
then-level Greater s eq = absurd (true≢false eq)

pub none-left : (n : ℕ) (xs : List ℕ) → length xs ≤ n → drop n xs ≡ []
none-left zero [] few = refl
none-left zero (x ∷ xs) few = absurd (omega (arith, few))
none-left (suc n) [] few = refl
none-left (suc n) (x ∷ xs) few = none-left n xs (omega (arith, few))
