-- The ranks of lists, which comes before which, and lists of which nothing passes a test.
use Rattle.std.proofs.Common.{◌≡◌, ◌≤◌, ◌<◌, ℕ, zero, suc, Bool, true, false, cond, List, [], ◌∷◌, ◌++◌, length, map}
use Rattle.std.proofs.Common.{take, refl, sym, ap, ◌∙◌, arith}
use Rattle.std.specs.Prelude.{◌==◌, ◌&&◌, ◌||◌, Some, slice_get}
use Rattle.std.specs.List.{list_any}
use Rattle.std.proofs.lemmas.Bool.Decides.{nat_tests}
use Rattle.std.proofs.lemmas.List.Folds.{list_any-append}
use Rattle.volume_lists.specs.Choice.{comes_before, is_rejected, rank_of}
use Rattle.volume_lists.specs.Listing.{bars_group, bars_volume, listing_of}
use Rattle.volume_lists.specs.declared.lists.Listing.{Listing}
use Rattle.volume_lists.specs.declared.lists.Listing.TheVariants.{Primary, Secondary, Tertiary, Rejected}
use Rattle.volume_lists.specs.declared.lists.Why.TheVariants.{Group, Room, Volume}
use Rattle.volume_lists.specs.declared.view.VolView.{VolView}
use Rattle.volume_lists.specs.declared.view.Want.{Want}

-- Ranks.

pub rank-some : (listing : Listing) → 1 ≤ rank_of listing
rank-some Primary = omega arith
rank-some Secondary = omega arith
rank-some Tertiary = omega arith
rank-some (Rejected why) = omega arith

pub rank-most : (listing : Listing) → rank_of listing ≤ 4
rank-most Primary = omega arith
rank-most Secondary = omega arith
rank-most Tertiary = omega arith
rank-most (Rejected why) = omega arith

pub rank-listed : (listing : Listing) → rank_of listing < 4 → is_rejected listing ≡ false
rank-listed Primary less = refl
rank-listed Secondary less = refl
rank-listed Tertiary less = refl
rank-listed (Rejected why) less = absurd (omega (arith, less))

pub rank-rejected : (listing : Listing) → 4 ≤ rank_of listing → is_rejected listing ≡ true
rank-rejected Primary most = absurd (omega (arith, most))
rank-rejected Secondary most = absurd (omega (arith, most))
rank-rejected Tertiary most = absurd (omega (arith, most))
rank-rejected (Rejected why) most = refl

no-room : (b c : Bool) → rank_of (cond b (Rejected Group) (cond c (Rejected Volume) (Rejected Room))) ≡ 4
no-room true c = refl
no-room false true = refl
no-room false false = refl

-- a volume with no room is rejected
pub rank-full : (view : VolView) (want : Want) → view.fits ≡ false → rank_of (listing_of view want) ≡ 4
rank-full view want full = rw full (no-room (bars_group view.group_status) (bars_volume view.status))

-- Which comes before which.

pub before-less : (r t x y : ℕ) → comes_before r t x y ≡ true → r ≤ x
before-less r t x y is = grind (arith, nat_tests)

pub before-tier : (r t x y : ℕ) → comes_before r t x y ≡ true → r ≡ x → t < y
before-tier r t x y is same = grind (arith, nat_tests)

pub behind-all : (t x y : ℕ) → x ≤ 4 → (x ≡ 4 → y ≡ 0) → comes_before 4 t x y ≡ false
behind-all t x y most last = behind (comes_before 4 t x y) refl
  where
    behind : (b : Bool) → comes_before 4 t x y ≡ b → b ≡ false
    behind true is =
        let le : 4 ≤ x = before-less 4 t x y is in
        let same : x ≡ 4 = omega (arith, le, most) in
        let less : t < y = before-tier 4 t x y is (sym same) in
        absurd (omega (arith, less, last same))
    behind false is = refl

pub before-self : (r t : ℕ) → comes_before r t r t ≡ false
before-self r t = grind (arith, nat_tests)

pub before-first : (r t : ℕ) → 1 ≤ r → comes_before r t 1 0 ≡ false
before-first r t some = grind (arith, nat_tests)

-- what isn't before a first isn't before what is before that
pub before-then : (r t x y z u : ℕ) → comes_before x y z u ≡ true → comes_before r t z u ≡ false → comes_before r t x y ≡ false
before-then r t x y z u is off = grind (arith, nat_tests)

pub before-none : (r t : ℕ) → comes_before r t 4 0 ≡ false → 4 ≤ r
before-none r t off = grind (arith, nat_tests)

pub first-is : (r t : ℕ) → ((r == 1) && (t == 0)) ≡ true → (r ≡ 1) × (t ≡ 0)
first-is r t is = grind (arith, nat_tests)

-- Lists.

pub none-of : (b c : Bool) → (b || c) ≡ false → (b ≡ false) × (c ≡ false)
none-of true c none = absurd cc
none-of false c none = (refl, none)

pub front-none : {X : Type 0} (xs : List X) → take 0 xs ≡ []
front-none [] = refl
front-none (x ∷ xs) = refl

pub any-none : {X : Type 0} (p : X → Bool) (xs : List X) → ((x : X) → p x ≡ false) → list_any p xs ≡ false
any-none p [] none = refl
any-none p (x ∷ xs) none = rw (none x) (any-none p xs none)

pub any-both : {X : Type 0} (p : X → Bool) (xs ys : List X) → list_any p xs ≡ false → list_any p ys ≡ false → list_any p (xs ++ ys) ≡ false
any-both p xs ys one two = list_any-append p xs ys ∙ (rw (one, two) refl)

any-weaker-at : {X : Type 0} (p q : X → Bool) (x : X) (xs : List X) (b : Bool) → p x ≡ b → ((y : X) → p y ≡ false → q y ≡ false) → (list_any p xs ≡ false → list_any q xs ≡ false)
    → list_any p (x ∷ xs) ≡ false → list_any q (x ∷ xs) ≡ false
any-weaker-at p q x xs true is step rest none =
    let now : true ≡ false = rw is at none in absurd cc
any-weaker-at p q x xs false is step rest none =
    let now : list_any p xs ≡ false = rw is at none in rw (step x is) (rest now)

pub any-weaker : {X : Type 0} (p q : X → Bool) (xs : List X) → ((y : X) → p y ≡ false → q y ≡ false) → list_any p xs ≡ false → list_any q xs ≡ false
any-weaker p q [] step none = refl
any-weaker p q (x ∷ xs) step none = any-weaker-at p q x xs _ refl step (any-weaker p q xs step) none

pub there-longer : {X : Type 0} (xs ys : List X) (k : ℕ) (x : X) → slice_get xs k ≡ Some x → slice_get (xs ++ ys) k ≡ Some x
there-longer [] ys k x there = absurd cc
there-longer (y ∷ xs) ys zero x there = there
there-longer (y ∷ xs) ys (suc k) x there = there-longer xs ys k x there

pub there-last : {X : Type 0} (xs : List X) (x : X) → slice_get (xs ++ x ∷ []) (length xs) ≡ Some x
there-last [] x = refl
there-last (y ∷ xs) x = there-last xs x

pub there-mapped : {X Y : Type 0} (f : X → Y) (xs : List X) (k : ℕ) (x : X) → slice_get xs k ≡ Some x → slice_get (map f xs) k ≡ Some (f x)
there-mapped f [] k x there = absurd cc
there-mapped f (y ∷ xs) zero x there =
    let same : y ≡ x = cc in ap (λ z. Some (f z)) same
there-mapped f (y ∷ xs) (suc k) x there = there-mapped f xs k x there
