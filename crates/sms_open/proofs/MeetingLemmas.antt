-- Extents in order, of which no two hold one track.
use Rattle.std.proofs.Common.{◌≡◌, ◌≤◌, ◌<◌, ◌+◌, ◌-◌, ℕ, zero, suc, Bool, true, false, cond, List, [], ◌∷◌, ◌++◌}
use Rattle.std.proofs.Common.{Ordering, Less, Equal, Greater, length, get_or, take, refl, sym, ap, ◌∙◌, subst, arith}
use Rattle.std.proofs.Common.{inl, inr, append_assoc, append-nil}
use Rattle.std.specs.Prelude.{bytes_eq, nat_lt, nat_le}
use Rattle.std.specs.Cmp.{IsTotalOrder, IsStrictWeakOrder}
use Rattle.std.specs.Cmp.Lexicographic.{slice_cmp, nat_list_cmp_total}
use Rattle.std.specs.List.{AllByRecursion, sum_by}
use Rattle.std.specs.List.Sorted.{IsPermutation, IsSorted}
use Rattle.std.specs.Ordering.{is_lt, is_eq, nat_cmp}
use Rattle.std.proofs.lemmas.Bool.Decides.{nat_tests}
use Rattle.std.proofs.lemmas.Cmp.{nat_cmp_total, on_total, then_total, tied_itself}
use Rattle.std.proofs.lemmas.List.Sorted.{ranks_by, sum_by-IsPermutation, All-permutation}
use Rattle.std.proofs.lemmas.List.Elements.{All-from_recursion, recursion_from_All}
use Rattle.std.proofs.lemmas.List.Sums.{sum_by-cons}
use Rattle.std.proofs.lemmas.Map.Text.{is_eq-slice_cmp}
use Rattle.sms_construct.specs.declared.data_set.DataSet.{DataSet}
use Rattle.sms_construct.specs.declared.extent.Extent.{Extent}
use Rattle.track_ledger.specs.Gaps.{holds, times_held}
use Rattle.desk_law.specs.Extents.{extents_of, piece_of, pieces_on}
use Rattle.desk_law.proofs.ByteLemmas.{bytes-self, same-bytes}
use Rattle.desk_law.proofs.CountLemmas.{once_of, sum-cons, times-is}
use Rattle.desk_law.proofs.SetLemmas.{each-append}
use Rattle.sms_open.specs.Inner.Meeting.{AreChained, Follows, HasTracks, place_cmp}
use Rattle.sms_open.proofs.EachLemmas.{take-one}

-- How often a track is held, counted over extents.

abbrev held_by : List ℕ → ℕ → Extent → ℕ
held_by v t e = cond (bytes_eq e.volser v) (once_of t (piece_of e)) 0

times-cons : (v : List ℕ) (t : ℕ) (e : Extent) (es : List Extent) → times_held (pieces_on v (e ∷ es)) t ≡ held_by v t e + times_held (pieces_on v es) t
times-cons v t e es = omega (arith, times-is (pieces_on v (e ∷ es)) t, times-is (pieces_on v es) t, sum-cons (once_of t) v e es)

times-sum : (v : List ℕ) (t : ℕ) (es : List Extent) → times_held (pieces_on v es) t ≡ sum_by (held_by v t) es
times-sum v t [] = refl
times-sum v t (e ∷ es) = omega (arith, times-cons v t e es, times-sum v t es, sum_by-cons (held_by v t) e es)

-- in another order as often
times-permuted : (v : List ℕ) (t : ℕ) (es fs : List Extent) → IsPermutation es fs → times_held (pieces_on v fs) t ≡ times_held (pieces_on v es) t
times-permuted v t es fs moved = times-sum v t fs ∙ (sum_by-IsPermutation (held_by v t) es fs moved ∙ sym (times-sum v t es))

abbrev NoneTwice : List Extent → Type 0
NoneTwice es = (v : List ℕ) (t : ℕ) → times_held (pieces_on v es) t ≤ 1

-- Extents of which each follows the one before it hold no track twice.

follows-on : (a b c : Extent) → Follows a b → Follows b c → Follows a c
follows-on a b c (inl less) (inl more) = inl (nat_list_cmp_total.trans a.volser b.volser c.volser less more)
follows-on a b c (inl less) (inr same) = inl (subst (λ (v : List ℕ). slice_cmp nat_cmp a.volser v ≡ Less) same.0 less)
follows-on a b c (inr same) (inl more) = inl (subst (λ (v : List ℕ). slice_cmp nat_cmp v c.volser ≡ Less) (sym same.0) more)
follows-on a b c (inr one) (inr other) = inr (one.0 ∙ other.0, omega (arith, one.1, other.1))

all-follow-on : (a b : Extent) (es : List Extent) → Follows a b → AllByRecursion (Follows b) es → AllByRecursion (Follows a) es
all-follow-on a b [] first all = tt
all-follow-on a b (e ∷ es) first all = (follows-on a b e first all.0, all-follow-on a b es first all.1)

chained-tail : (e : Extent) (es : List Extent) → AreChained (e ∷ es) → AreChained es
chained-tail e [] chained = tt
chained-tail e (f ∷ es) chained = chained.1

all-follow : (e : Extent) (es : List Extent) → AreChained (e ∷ es) → AllByRecursion (Follows e) es
all-follow e [] chained = tt
all-follow e (f ∷ es) chained = (chained.0, all-follow-on e f es chained.0 (all-follow f es chained.1))

less-off : (a b : List ℕ) → slice_cmp nat_cmp a b ≡ Less → a ≡ b → ⊥
less-off a b less same =
    let own : slice_cmp nat_cmp a a ≡ Less = subst (λ (n : List ℕ). slice_cmp nat_cmp a n ≡ Less) (sym same) less in
    let tied : slice_cmp nat_cmp a a ≡ Equal = tied_itself nat_list_cmp_total a in absurd cc

holds-from : (e : Extent) (t : ℕ) (b c : Bool) → nat_le e.start t ≡ b → nat_lt t (e.start + e.length) ≡ c → holds (piece_of e) t ≡ true → (e.start ≤ t) × (t < e.start + e.length)
holds-from e t true true low high is = grind (arith, nat_tests, low, high)
holds-from e t true false low high is = let bad : false ≡ true = rw (low, high) at is in absurd cc
holds-from e t false c low high is = let bad : false ≡ true = rw low at is in absurd cc

held-not : (e : Extent) (v : List ℕ) (t : ℕ) (b c : Bool) → bytes_eq e.volser v ≡ b → holds (piece_of e) t ≡ c → (b ≡ true → c ≡ true → ⊥) → held_by v t e ≡ 0
held-not e v t true true on is never = absurd (never refl refl)
held-not e v t true false on is _ = rw (on, is) refl
held-not e v t false c on is _ = rw on refl

follows-not : (e f : Extent) (v : List ℕ) (t : ℕ) → Follows e f → bytes_eq e.volser v ≡ true → holds (piece_of e) t ≡ true → bytes_eq f.volser v ≡ true → holds (piece_of f) t ≡ true → ⊥
follows-not e f v t (inl less) on is on' is' = less-off e.volser f.volser less (same-bytes e.volser v on ∙ sym (same-bytes f.volser v on'))
follows-not e f v t (inr same) on is on' is' =
    let one = holds-from e t _ _ refl refl is in
    let other = holds-from f t _ _ refl refl is' in
    omega (arith, one.1, other.0, same.1)

none-follows : (e : Extent) (v : List ℕ) (t : ℕ) (es : List Extent) → AllByRecursion (Follows e) es → bytes_eq e.volser v ≡ true → holds (piece_of e) t ≡ true → times_held (pieces_on v es) t ≡ 0
none-follows e v t [] all on is = refl
none-follows e v t (f ∷ es) all on is =
    let here : held_by v t f ≡ 0 = held-not f v t _ _ refl refl (follows-not e f v t all.0 on is) in
    omega (arith, here, times-cons v t f es, none-follows e v t es all.1 on is)

once-cons : (e : Extent) (v : List ℕ) (t : ℕ) (es : List Extent) (b c : Bool) → bytes_eq e.volser v ≡ b → holds (piece_of e) t ≡ c → AllByRecursion (Follows e) es → times_held (pieces_on v es) t ≤ 1
    → times_held (pieces_on v (e ∷ es)) t ≤ 1
once-cons e v t es true true on is all rest =
    let here : held_by v t e ≡ 1 = rw (on, is) refl in
    omega (arith, here, times-cons v t e es, none-follows e v t es all on is)
once-cons e v t es true false on is all rest =
    let here : held_by v t e ≡ 0 = rw (on, is) refl in
    omega (arith, here, times-cons v t e es, rest)
once-cons e v t es false c on is all rest =
    let here : held_by v t e ≡ 0 = rw on refl in
    omega (arith, here, times-cons v t e es, rest)

chained-once : (es : List Extent) → AreChained es → NoneTwice es
chained-once [] chained = λ v t. omega arith
chained-once (e ∷ es) chained = λ v t. once-cons e v t es _ _ refl refl (all-follow e es chained) (chained-once es (chained-tail e es chained) v t)

-- Extents in order that hold no track twice follow one another.

order_total : IsTotalOrder place_cmp
order_total = then_total (on_total (λ (e : Extent). e.volser) nat_list_cmp_total) (on_total (λ (e : Extent). e.start) nat_cmp_total)

-- the order, as a sort asks for it
pub order_weak : IsStrictWeakOrder (λ (one : Extent) (other : Extent). is_lt (place_cmp one other))
order_weak = ranks_by order_total (λ (e : Extent). e)

sorted-tail : (e : Extent) (es : List Extent) → IsSorted place_cmp (e ∷ es) → IsSorted place_cmp es
sorted-tail e es sorted = λ k d low high.
    let next : suc k + 1 ≡ suc (k + 1) = omega arith in
    subst (λ (n : ℕ). is_lt (place_cmp (get_or (e ∷ es) n d) (get_or es k d)) ≡ false) next (sorted (suc k) d (omega arith) (omega (arith, high)))

sorted-head : (e f : Extent) (es : List Extent) → IsSorted place_cmp (e ∷ f ∷ es) → is_lt (place_cmp f e) ≡ false
sorted-head e f es sorted = sorted 0 e (omega arith) (omega arith)

own-held : (e : Extent) (v : List ℕ) (t : ℕ) → e.volser ≡ v → e.start ≤ t → t < e.start + e.length → held_by v t e ≡ 1
own-held e v t same low high =
    let on : bytes_eq e.volser v ≡ true = rw same (bytes-self v) in
    let a : nat_le e.start t ≡ true = grind (arith, nat_tests, low) in
    let b : nat_lt t (e.start + e.length) ≡ true = grind (arith, nat_tests, high) in
    rw (on, a, b) refl

-- two that hold one track
both-hold : (e f : Extent) (es : List Extent) → e.volser ≡ f.volser → e.start ≤ f.start → f.start < e.start + e.length → 0 < f.length → NoneTwice (e ∷ f ∷ es) → ⊥
both-hold e f es same low high some once =
    let v = f.volser in
    let t = f.start in
    let one : held_by v t e ≡ 1 = own-held e v t same low high in
    let two : held_by v t f ≡ 1 = own-held f v t refl (omega arith) (omega (arith, some)) in
    omega (arith, one, two, times-cons v t e (f ∷ es), times-cons v t f es, once v t)

start-order : (a b : ℕ) → is_lt (nat_cmp b a) ≡ false → a ≤ b
start-order a b off = grind (arith, nat_tests, off)

follows-sorted : (e f : Extent) (es : List Extent) (o : Ordering) (ends : Bool) → slice_cmp nat_cmp f.volser e.volser ≡ o → nat_le (e.start + e.length) f.start ≡ ends
    → is_lt (place_cmp f e) ≡ false → 0 < f.length → NoneTwice (e ∷ f ∷ es) → Follows e f
follows-sorted e f es Less ends is end off some once = let bad : true ≡ false = rw is at off in absurd cc
follows-sorted e f es Greater ends is end off some once = inl (rw is at (nat_list_cmp_total.antisymm e.volser f.volser))
follows-sorted e f es Equal true is end off some once =
    let same : f.volser ≡ e.volser = same-bytes f.volser e.volser (sym (is_eq-slice_cmp f.volser e.volser) ∙ ap is_eq is) in
    inr (sym same, grind (arith, nat_tests, end))
follows-sorted e f es Equal false is end off some once =
    let same : f.volser ≡ e.volser = same-bytes f.volser e.volser (sym (is_eq-slice_cmp f.volser e.volser) ∙ ap is_eq is) in
    let starts : is_lt (nat_cmp f.start e.start) ≡ false = rw is at off in
    let low : e.start ≤ f.start = start-order e.start f.start starts in
    let high : f.start < e.start + e.length = grind (arith, nat_tests, end) in
    absurd (both-hold e f es (sym same) low high some once)

once-tail : (e : Extent) (es : List Extent) → NoneTwice (e ∷ es) → NoneTwice es
once-tail e es once = λ v t. omega (arith, times-cons v t e es, once v t)

sorted-chained : (es : List Extent) → IsSorted place_cmp es → AllByRecursion (λ (e : Extent). 0 < e.length) es → NoneTwice es → AreChained es
sorted-chained [] sorted some once = tt
sorted-chained (e ∷ []) sorted some once = tt
sorted-chained (e ∷ f ∷ es) sorted some once =
    (follows-sorted e f es _ _ refl refl (sorted-head e f es sorted) some.1.0 once, sorted-chained (f ∷ es) (sorted-tail e (f ∷ es) sorted) some.1 (once-tail e (f ∷ es) once))

-- no extent of the data sets is empty
some-tracks : (sets : List DataSet) → AllByRecursion HasTracks sets → AllByRecursion (λ (e : Extent). 0 < e.length) (extents_of sets)
some-tracks [] all = tt
some-tracks (set ∷ sets) all = each-append (λ (e : Extent). 0 < e.length) set.extents (extents_of sets) all.0 (some-tracks sets all.1)

-- the extents in order tell whether a track is held twice
pub chained-is : (sets : List DataSet) (es : List Extent) → IsPermutation (extents_of sets) es → AreChained es → NoneTwice (extents_of sets)
chained-is sets es moved chained = λ v t. let once = chained-once es chained v t in omega (arith, once, times-permuted v t (extents_of sets) es moved)

pub chained-from : (sets : List DataSet) (es : List Extent) → IsPermutation (extents_of sets) es → IsSorted place_cmp es → AllByRecursion HasTracks sets → NoneTwice (extents_of sets) → AreChained es
chained-from sets es moved sorted some once =
    sorted-chained es sorted
    (recursion_from_All (λ (e : Extent). 0 < e.length) es (All-permutation (λ (e : Extent). 0 < e.length) (extents_of sets) es moved (All-from_recursion (λ (e : Extent). 0 < e.length) (extents_of sets) (some-tracks sets some))))
    (λ v t. let one = once v t in omega (arith, one, times-permuted v t (extents_of sets) es moved))

-- The extents of the data sets that were gone over.

extents-append : (a b : List DataSet) → extents_of (a ++ b) ≡ extents_of a ++ extents_of b
extents-append [] b = refl
extents-append (set ∷ a) b = ap (λ (l : List Extent). set.extents ++ l) (extents-append a b) ∙ sym (append_assoc set.extents (extents_of a) (extents_of b))

pub extents-more : (sets : List DataSet) (i : ℕ) (set : DataSet) → i < length sets → set ≡ get_or sets i set → extents_of (take i sets) ++ set.extents ≡ extents_of (take (i + 1) sets)
extents-more sets i set less is =
    ap (λ (l : List Extent). extents_of (take i sets) ++ l) (sym (append-nil set.extents)) ∙ (sym (extents-append (take i sets) (set ∷ [])) ∙ ap extents_of (sym (take-one sets i set less is)))

-- The extents that were gone over.

pub chained-more : (es : List Extent) (i : ℕ) (e f : Extent) → suc i < length es → e ≡ get_or es i e → f ≡ get_or es (suc i) f → Follows e f → AreChained (take (suc i) es) → AreChained (take (suc (suc i)) es)
chained-more [] i e f less is next follows chained = absurd (omega (arith, less))
chained-more (a ∷ []) i e f less is next follows chained = absurd (omega (arith, less))
chained-more (a ∷ b ∷ es) zero e f less is next follows chained = (subst (λ (x : Extent). Follows x b) is (subst (λ (y : Extent). Follows e y) next follows), tt)
chained-more (a ∷ b ∷ es) (suc i) e f less is next follows chained = (chained.0, chained-more (b ∷ es) i e f (omega (arith, less)) is next follows chained.1)

pub chained-at : (es : List Extent) (i : ℕ) (e f : Extent) → suc i < length es → e ≡ get_or es i e → f ≡ get_or es (suc i) f → AreChained es → Follows e f
chained-at [] i e f less is next chained = absurd (omega (arith, less))
chained-at (a ∷ []) i e f less is next chained = absurd (omega (arith, less))
chained-at (a ∷ b ∷ es) zero e f less is next chained = subst (λ (x : Extent). Follows x f) (sym is) (subst (λ (y : Extent). Follows a y) (sym next) chained.0)
chained-at (a ∷ b ∷ es) (suc i) e f less is next chained = chained-at (b ∷ es) i e f (omega (arith, less)) is next chained.1

-- by the place, which isn't the first
pub chained-next : (es : List Extent) (n : ℕ) (e f : Extent) → 1 ≤ n → n < length es → e ≡ get_or es (n - 1) e → f ≡ get_or es n f → Follows e f → AreChained (take n es) → AreChained (take (n + 1) es)
chained-next es n e f some less is next follows chained =
    let here : suc (n - 1) ≡ n = omega (arith, some) in
    let there : suc (suc (n - 1)) ≡ n + 1 = omega (arith, some) in
    subst (λ (m : ℕ). AreChained (take m es)) there
    (chained-more es (n - 1) e f (omega (arith, some, less)) is (subst (λ (m : ℕ). f ≡ get_or es m f) (sym here) next) follows (subst (λ (m : ℕ). AreChained (take m es)) (sym here) chained))

pub chained-before : (es : List Extent) (n : ℕ) (e f : Extent) → 1 ≤ n → n < length es → e ≡ get_or es (n - 1) e → f ≡ get_or es n f → AreChained es → Follows e f
chained-before es n e f some less is next chained =
    let here : suc (n - 1) ≡ n = omega (arith, some) in
    chained-at es (n - 1) e f (omega (arith, some, less)) is (subst (λ (m : ℕ). f ≡ get_or es m f) (sym here) next) chained
