-- The gaps found one after the other, longest first.
use Rattle.std.proofs.Common.{◌≡◌, ◌≤◌, ◌<◌, ◌+◌, ◌-◌, ℕ, zero, suc, Bool, true, false, cond, List, [], ◌∷◌, length}
use Rattle.std.proofs.Common.{take, refl, sym, ap, ◌∙◌, subst, arith}
use Rattle.std.specs.Prelude.{Option, None, Some, find, max, nat_le, not, slice_get, ◌&&◌}
use Rattle.std.specs.List.{All}
use Rattle.std.proofs.lemmas.Bool.Decides.{nat_tests}
use Rattle.std.proofs.lemmas.List.Elements.{All-cons, All-head, All-nil, All-tail, All-weaker}
use Rattle.track_ledger.specs.declared.piece.Piece.{Piece}
use Rattle.track_ledger.specs.GapRule.{comes_first, longest_first, put_in_order}
use Rattle.track_ledger.specs.Inner.GapLists.{StandApart}
use Rattle.track_ledger.specs.Inner.Measures.{longest_among}
use Rattle.track_ledger.proofs.GrantLemmas.{longest-inside}
use Rattle.track_ledger.proofs.OrderLemmas.{StandStrictly, chain, itself, or-else, strict-longest}

find-on : (p : Piece → Bool) (x : Piece) (xs : List Piece) → p x ≡ true → find p (x ∷ xs) ≡ Some x
find-on p x xs on = rw on refl

find-off : (p : Piece → Bool) (x : Piece) (xs : List Piece) → p x ≡ false → find p (x ∷ xs) ≡ find p xs
find-off p x xs off = rw off refl

-- all pass
find-all : (p : Piece → Bool) (xs : List Piece) → All (λ (y : Piece). p y ≡ true) xs → find p xs ≡ slice_get xs 0
find-all p [] all = refl
find-all p (x ∷ xs) all = find-on p x xs (All-head (λ (y : Piece). p y ≡ true) x xs all)

pub find-first : (xs : List Piece) → find (λ (y : Piece). true) xs ≡ slice_get xs 0
find-first [] = refl
find-first (x ∷ xs) = refl

-- none passes
pub find-nothing : (p : Piece → Bool) (xs : List Piece) → All (λ (y : Piece). p y ≡ false) xs → find p xs ≡ None
find-nothing p [] all = refl
find-nothing p (x ∷ xs) all =
    let P : Piece → Type 0 = λ (y : Piece). p y ≡ false in
    find-off p x xs (All-head P x xs all) ∙ find-nothing p xs (All-tail P x xs all)

-- what is found passes
found-passes_at : (p : Piece → Bool) (x : Piece) (xs : List Piece) (found : Piece) (b : Bool) → p x ≡ b → (find p xs ≡ Some found → p found ≡ true) → find p (x ∷ xs) ≡ Some found → p found ≡ true
found-passes_at p x xs found true is rest here =
    let both : Some x ≡ Some found = sym (find-on p x xs is) ∙ here in
    let same : x ≡ found = cc in subst (λ (y : Piece). p y ≡ true) same is
found-passes_at p x xs found false is rest here = rest (sym (find-off p x xs is) ∙ here)

found-passes : (p : Piece → Bool) (xs : List Piece) (found : Piece) → find p xs ≡ Some found → p found ≡ true
found-passes p [] found here = absurd cc
found-passes p (x ∷ xs) found here = found-passes_at p x xs found _ refl (found-passes p xs found) here

-- what is found is one of them
found-inside_at : (P : Piece → Type 0) (p : Piece → Bool) (x : Piece) (xs : List Piece) (found : Piece) (b : Bool) → p x ≡ b → P x → (find p xs ≡ Some found → P found) → find p (x ∷ xs) ≡ Some found → P found
found-inside_at P p x xs found true is own rest here =
    let both : Some x ≡ Some found = sym (find-on p x xs is) ∙ here in
    let same : x ≡ found = cc in subst P same own
found-inside_at P p x xs found false is own rest here = rest (sym (find-off p x xs is) ∙ here)

found-inside : (P : Piece → Type 0) (p : Piece → Bool) (xs : List Piece) (found : Piece) → All P xs → find p xs ≡ Some found → P found
found-inside P p [] found all here = absurd cc
found-inside P p (x ∷ xs) found all here = found-inside_at P p x xs found _ refl (All-head P x xs all) (found-inside P p xs found (All-tail P x xs all)) here

-- a gap put in order that doesn't pass
put-off_at : (p : Piece → Bool) (gap x : Piece) (xs : List Piece) (b : Bool) → comes_first gap x ≡ b → p gap ≡ false → find p (put_in_order gap xs) ≡ find p xs
    → find p (put_in_order gap (x ∷ xs)) ≡ find p (x ∷ xs)
put-off_at p gap x xs true is off rest = rw is (find-off p gap (x ∷ xs) off)
put-off_at p gap x xs false is off rest = rw is (ap (λ (o : Option Piece). cond (p x) (Some x) o) rest)

put-off : (p : Piece → Bool) (gap : Piece) (xs : List Piece) → p gap ≡ false → find p (put_in_order gap xs) ≡ find p xs
put-off p gap [] off = find-off p gap [] off
put-off p gap (x ∷ xs) off = put-off_at p gap x xs _ refl off (put-off p gap xs off)

-- one that passes, and comes before those that do
put-before_at : (p : Piece → Bool) (gap x : Piece) (xs : List Piece) (b c : Bool) → comes_first gap x ≡ b → p x ≡ c → p gap ≡ true → (p x ≡ true → comes_first gap x ≡ true)
    → find p (put_in_order gap xs) ≡ Some gap → find p (put_in_order gap (x ∷ xs)) ≡ Some gap
put-before_at p gap x xs true c is px on first rest = rw is (find-on p gap (x ∷ xs) on)
put-before_at p gap x xs false true is px on first rest = let now : comes_first gap x ≡ true = first px in absurd cc
put-before_at p gap x xs false false is px on first rest = rw is (find-off p x (put_in_order gap xs) px ∙ rest)

put-before : (p : Piece → Bool) (gap : Piece) (xs : List Piece) → p gap ≡ true → All (λ (y : Piece). p y ≡ true → comes_first gap y ≡ true) xs → find p (put_in_order gap xs) ≡ Some gap
put-before p gap [] on all = find-on p gap [] on
put-before p gap (x ∷ xs) on all =
    let P : Piece → Type 0 = λ (y : Piece). p y ≡ true → comes_first gap y ≡ true in
    put-before_at p gap x xs _ _ refl refl on (All-head P x xs all) (put-before p gap xs on (All-tail P x xs all))

-- one that stands behind the first that passes
put-after_at : (p : Piece → Bool) (gap x : Piece) (xs : List Piece) (found : Piece) (b c : Bool) → comes_first gap x ≡ b → p x ≡ c → comes_first gap found ≡ false → StandStrictly (x ∷ xs)
    → find p (x ∷ xs) ≡ Some found → (find p xs ≡ Some found → find p (put_in_order gap xs) ≡ Some found) → find p (put_in_order gap (x ∷ xs)) ≡ Some found
put-after_at p gap x xs found true true is px behind stand here rest =
    let both : Some x ≡ Some found = sym (find-on p x xs px) ∙ here in
    let same : x ≡ found = cc in
    let now : comes_first gap found ≡ true = subst (λ (y : Piece). comes_first gap y ≡ true) same is in absurd cc
put-after_at p gap x xs found true false is px behind stand here rest =
    let after : comes_first found x ≡ false = found-inside (λ (y : Piece). comes_first y x ≡ false) p xs found stand.0 (sym (find-off p x xs px) ∙ here) in
    let now : comes_first gap found ≡ true = chain gap x found is (or-else found x after) in absurd cc
put-after_at p gap x xs found false true is px behind stand here rest = rw is (find-on p x (put_in_order gap xs) px ∙ sym (find-on p x xs px) ∙ here)
put-after_at p gap x xs found false false is px behind stand here rest =
    rw is (find-off p x (put_in_order gap xs) px ∙ rest (sym (find-off p x xs px) ∙ here))

put-after : (p : Piece → Bool) (gap : Piece) (xs : List Piece) (found : Piece) → StandStrictly xs → comes_first gap found ≡ false → find p xs ≡ Some found → find p (put_in_order gap xs) ≡ Some found
put-after p gap [] found stand behind here = absurd cc
put-after p gap (x ∷ xs) found stand behind here = put-after_at p gap x xs found _ _ refl refl behind stand here (put-after p gap xs found stand.1 behind)

-- one that passes and has so many tracks
abbrev pub is_so_long : (Piece → Bool) → ℕ → Piece → Bool
is_so_long p most gap = p gap && nat_le most gap.length

long-on : (p : Piece → Bool) (most : ℕ) (x : Piece) → p x ≡ true → nat_le most x.length ≡ true → is_so_long p most x ≡ true
long-on p most x on long = rw (on, long) refl

long-short : (p : Piece → Bool) (most : ℕ) (x : Piece) → p x ≡ true → nat_le most x.length ≡ false → is_so_long p most x ≡ false
long-short p most x on short = rw (on, short) refl

long-off : (p : Piece → Bool) (most : ℕ) (x : Piece) → p x ≡ false → is_so_long p most x ≡ false
long-off p most x off = rw off refl

short-off_at : (b : Bool) (most n : ℕ) → n < most → (b && nat_le most n) ≡ false
short-off_at true most n short = grind (arith, nat_tests, short)
short-off_at false most n short = refl

pub short-off : (p : Piece → Bool) (most : ℕ) (gap : Piece) → gap.length < most → is_so_long p most gap ≡ false
short-off p most gap short = short-off_at (p gap) most gap.length short

long-length_at : (b : Bool) (most n : ℕ) → (b && nat_le most n) ≡ true → most ≤ n
long-length_at true most n on = grind (arith, nat_tests, on)
long-length_at false most n on = absurd cc

-- one of them is as long as the longest
longest-found_at : (p : Piece → Bool) (most : ℕ) (x : Piece) (xs : List Piece) (b c : Bool) → p x ≡ b → nat_le most x.length ≡ c → most ≡ longest_among p (x ∷ xs)
    → (most ≡ longest_among p xs → find (is_so_long p most) xs ≡ None → ⊥) → find (is_so_long p most) (x ∷ xs) ≡ None → ⊥
longest-found_at p most x xs true true is long most_is rest none =
    let both : Some x ≡ None = sym (find-on (is_so_long p most) x xs (long-on p most x is long)) ∙ none in absurd cc
longest-found_at p most x xs true false is long most_is rest none =
    let now : most ≡ max x.length (longest_among p xs) = rw is at most_is in
    rest (grind (arith, nat_tests, now, long)) (sym (find-off (is_so_long p most) x xs (long-short p most x is long)) ∙ none)
longest-found_at p most x xs false c is long most_is rest none =
    let now : most ≡ max 0 (longest_among p xs) = rw is at most_is in
    rest (omega (arith, now)) (sym (find-off (is_so_long p most) x xs (long-off p most x is)) ∙ none)

longest-found : (p : Piece → Bool) (most : ℕ) (xs : List Piece) → 0 < most → most ≡ longest_among p xs → find (is_so_long p most) xs ≡ None → ⊥
longest-found p most [] some most_is none = absurd (omega (arith, some, most_is))
longest-found p most (x ∷ xs) some most_is none = longest-found_at p most x xs _ _ refl refl most_is (longest-found p most xs some) none

first-at : (gap x : Piece) (rest : ℕ) → max x.length rest ≤ gap.length → gap.start + gap.length ≤ x.start → comes_first gap x ≡ true
first-at gap x rest most low = grind (arith, nat_tests, most, low)

-- a gap as long as the longest behind it comes before them
first-of : (p : Piece → Bool) (gap : Piece) (xs : List Piece) → longest_among p xs ≤ gap.length → All (λ (y : Piece). gap.start + gap.length ≤ y.start) xs
    → All (λ (y : Piece). p y ≡ true → comes_first gap y ≡ true) xs
first-of p gap [] most apart = All-nil (λ (y : Piece). p y ≡ true → comes_first gap y ≡ true)
first-of p gap (x ∷ xs) most apart =
    let P : Piece → Type 0 = λ (y : Piece). gap.start + gap.length ≤ y.start in
    let low = All-head P x xs apart in
    let here : p x ≡ true → comes_first gap x ≡ true = λ on. first-at gap x (longest_among p xs) (rw on at most) low in
    All-cons (λ (y : Piece). p y ≡ true → comes_first gap y ≡ true) x xs here (first-of p gap xs (omega (arith, most)) (All-tail P x xs apart))

-- of gaps that stand apart the first that passes, longest first, is the lowest of the longest that do
find-longest_at : (p : Piece → Bool) (most : ℕ) (x : Piece) (xs : List Piece) (o : Option Piece) → find (is_so_long p most) xs ≡ o → p x ≡ true → nat_le most x.length ≡ false → most ≡ longest_among p xs
    → StandStrictly (longest_first xs) → find p (longest_first xs) ≡ find (is_so_long p most) xs → find p (put_in_order x (longest_first xs)) ≡ find (is_so_long p most) xs
find-longest_at p most x xs None is on short most_is stand rest =
    absurd (longest-found p most xs (grind (arith, nat_tests, short)) most_is is)
find-longest_at p most x xs (Some found) is on short most_is stand rest =
    let long : most ≤ found.length = long-length_at (p found) most found.length (found-passes (is_so_long p most) xs found is) in
    let behind : comes_first x found ≡ false = grind (arith, nat_tests, short, long) in
    put-after p x (longest_first xs) found stand behind (rest ∙ is) ∙ sym is

find-longest_on : (p : Piece → Bool) (most : ℕ) (x : Piece) (xs : List Piece) (b c : Bool) → p x ≡ b → nat_le most x.length ≡ c → most ≡ longest_among p (x ∷ xs) → StandApart (x ∷ xs) → StandStrictly (longest_first xs)
    → (most ≡ longest_among p xs → find p (longest_first xs) ≡ find (is_so_long p most) xs) → find p (longest_first (x ∷ xs)) ≡ find (is_so_long p most) (x ∷ xs)
find-longest_on p most x xs true true is long most_is apart stand rest =
    let now : most ≡ max x.length (longest_among p xs) = rw is at most_is in
    let le : longest_among p xs ≤ x.length = grind (arith, nat_tests, now, long) in
    put-before p x (longest_first xs) is (longest-inside (λ (y : Piece). p y ≡ true → comes_first x y ≡ true) xs (first-of p x xs le apart.0))
    ∙ sym (find-on (is_so_long p most) x xs (long-on p most x is long))
find-longest_on p most x xs true false is short most_is apart stand rest =
    let now : most ≡ max x.length (longest_among p xs) = rw is at most_is in
    let most_rest : most ≡ longest_among p xs = grind (arith, nat_tests, now, short) in
    find-longest_at p most x xs _ refl is short most_rest stand (rest most_rest) ∙ sym (find-off (is_so_long p most) x xs (long-short p most x is short))
find-longest_on p most x xs false c is long most_is apart stand rest =
    let now : most ≡ max 0 (longest_among p xs) = rw is at most_is in
    put-off p x (longest_first xs) is ∙ rest (omega (arith, now)) ∙ sym (find-off (is_so_long p most) x xs (long-off p most x is))

pub find-longest : (p : Piece → Bool) (most : ℕ) (gaps : List Piece) → most ≡ longest_among p gaps → StandApart gaps → All (λ (gap : Piece). 0 < gap.length) gaps
    → find p (longest_first gaps) ≡ find (is_so_long p most) gaps
find-longest p most [] most_is apart some = refl
find-longest p most (x ∷ xs) most_is apart some =
    let rest = All-tail (λ (gap : Piece). 0 < gap.length) x xs some in
    find-longest_on p most x xs _ _ refl refl most_is apart (strict-longest xs apart.1 rest) (λ is. find-longest p most xs is apart.1 rest)

none-among_at : (p : Piece → Bool) (x : Piece) (rest : ℕ) (b : Bool) → p x ≡ b → 0 ≡ max (cond (p x) x.length 0) rest → 0 < x.length → p x ≡ false
none-among_at p x rest true is none some = let now : 0 ≡ max x.length rest = rw is at none in absurd (omega (arith, now, some))
none-among_at p x rest false is none some = is

none-among : (p : Piece → Bool) (gaps : List Piece) → 0 ≡ longest_among p gaps → All (λ (gap : Piece). 0 < gap.length) gaps → All (λ (gap : Piece). p gap ≡ false) gaps
none-among p [] none some = All-nil (λ (gap : Piece). p gap ≡ false)
none-among p (x ∷ xs) none some =
    let P : Piece → Type 0 = λ (gap : Piece). 0 < gap.length in
    All-cons (λ (gap : Piece). p gap ≡ false) x xs (none-among_at p x (longest_among p xs) _ refl none (All-head P x xs some))
    (none-among p xs (omega (arith, none)) (All-tail P x xs some))

-- where the longest that passes has no track none passes
pub find-none : (p : Piece → Bool) (gaps : List Piece) → 0 ≡ longest_among p gaps → All (λ (gap : Piece). 0 < gap.length) gaps → find p (longest_first gaps) ≡ None
find-none p gaps none some = find-nothing p (longest_first gaps) (longest-inside (λ (gap : Piece). p gap ≡ false) gaps (none-among p gaps none some))

-- what holds of all holds of the one at a place
get-inside : (P : Piece → Type 0) (xs : List Piece) (n : ℕ) (x : Piece) → All P xs → slice_get xs n ≡ Some x → P x
get-inside P [] n x all at = absurd cc
get-inside P (y ∷ ys) zero x all at = let same : y ≡ x = cc in subst P same (All-head P y ys all)
get-inside P (y ∷ ys) (suc n) x all at = get-inside P ys n x (All-tail P y ys all) at

take-get : (gaps : List Piece) (n i : ℕ) (x : Piece) → slice_get (take n gaps) i ≡ Some x → slice_get gaps i ≡ Some x
take-get gaps zero i x at = absurd cc
take-get [] (suc n) i x at = absurd cc
take-get (gap ∷ gaps) (suc n) zero x at = at
take-get (gap ∷ gaps) (suc n) (suc i) x at = take-get gaps n i x at

-- the first that stands behind one is the next
pub next-at : (gaps : List Piece) (n : ℕ) (last : Piece) → StandStrictly gaps → slice_get gaps n ≡ Some last → find (λ (gap : Piece). not (comes_first gap last)) gaps ≡ slice_get gaps (suc n)
next-at [] n last stand at = absurd cc
next-at (x ∷ xs) zero last stand at =
    let same : x ≡ last = cc in
    let p : Piece → Bool = λ (gap : Piece). not (comes_first gap last) in
    let own : comes_first x last ≡ true = subst (λ (y : Piece). comes_first x y ≡ true) same (itself x) in
    let all : All (λ (y : Piece). comes_first y last ≡ false) xs = subst (λ (z : Piece). All (λ (y : Piece). comes_first y z ≡ false) xs) same stand.0 in
    find-off p x xs (ap not own) ∙ find-all p xs (All-weaker (λ (y : Piece). comes_first y last ≡ false) (λ (y : Piece). p y ≡ true) (λ y e. ap not e) xs all)
next-at (x ∷ xs) (suc n) last stand at =
    let p : Piece → Bool = λ (gap : Piece). not (comes_first gap last) in
    let after : comes_first last x ≡ false = get-inside (λ (y : Piece). comes_first y x ≡ false) xs n last stand.0 at in
    find-off p x xs (ap not (or-else last x after)) ∙ next-at xs n last stand.1 at

-- the first that stands behind the last of those in front
pub next-behind : (gaps front : List Piece) (last : Piece) → StandStrictly gaps → front ≡ take (length front) gaps → Some last ≡ slice_get front (length front - 1)
    → find (λ (gap : Piece). not (comes_first gap last)) gaps ≡ slice_get gaps (length front)
next-behind gaps [] last stand is at = absurd cc
next-behind gaps (y ∷ ys) last stand is at =
    let one : suc (length ys) - 1 ≡ length ys = omega arith in
    let here : slice_get (y ∷ ys) (length ys) ≡ Some last = sym (subst (λ n. Some last ≡ slice_get (y ∷ ys) n) one at) in
    let there : slice_get (take (suc (length ys)) gaps) (length ys) ≡ Some last = subst (λ (l : List Piece). slice_get l (length ys) ≡ Some last) is here in
    next-at gaps (length ys) last stand (take-get gaps (suc (length ys)) (length ys) last there)
