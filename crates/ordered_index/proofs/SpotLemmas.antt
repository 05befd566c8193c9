-- What the rows beside a spot tell.
use Rattle.std.proofs.Common.{◌≡◌, ◌≤◌, ◌<◌, ℕ, zero, suc, Bool, true, false, List, [], ◌∷◌, ◌++◌, length, get_or, take}
use Rattle.std.proofs.Common.{drop, Vec, Global, Ordering, Less, Equal, Greater, is_gt, not, refl, sym, ◌∙◌, subst}
use Rattle.std.proofs.Common.{true≢false, arith}
use Rattle.std.specs.Cmp.{IsTotalOrder}
use Rattle.std.specs.List.{AllByRecursion}
use Rattle.std.specs.List.Sorted.{IsStrictlySortedBy}
use Rattle.std.specs.Map.{keys_of}
use Rattle.std.proofs.lemmas.Map.Keys.{sorted_tail}
use Rattle.ordered_index.specs.declared.spot.Spot.{Spot}
use Rattle.ordered_index.specs.Rows.{AreRows, rank}
use Rattle.ordered_index.specs.Chunks.{AreBehind, IsSpotOf, rows_of, starts_by}
use Rattle.ordered_index.proofs.ChunkLemmas.{before-first, behind-rows, rows-parts, sorted-right}
use Rattle.ordered_index.proofs.RowLemmas.{parted}

pub get-same : {X : Type 0} (xs : List X) (i : ℕ) (d e : X) → i < length xs → get_or xs i d ≡ get_or xs i e
get-same [] i d e less = absurd (omega (arith, less))
get-same (x ∷ xs) zero d e less = refl
get-same (x ∷ xs) (suc i) d e less = get-same xs i d e (omega (arith, less))

pub not-true : (b : Bool) → not b ≡ true → b ≡ false
not-true true is = absurd (true≢false (sym is))
not-true false is = refl

all-right : {K V : Type 0} (P : K → Type 0) (xs ys : List (K × V)) → AllByRecursion P (keys_of (xs ++ ys)) → AllByRecursion P (keys_of ys)
all-right P [] ys all = all
all-right P (x ∷ xs) ys all = all-right P xs ys all.1

module _ {K V : Type 0} {R : K → K → Ordering} (total : IsTotalOrder R) (k : K) where
  -- no more rows stand before the key than those up to one that does
  pub rank-above : (es : List (K × V)) (i : ℕ) (d : K × V) → i < length es → AreRows R es → is_gt (R k (get_or es i d).0) ≡ true → suc i ≤ rank R k es
  rank-above [] i d less sorted is = absurd (omega (arith, less))
  rank-above (e ∷ es) zero d less sorted is = rw is (omega arith)
  rank-above (e ∷ es) (suc i) d less sorted is =
      let first : is_gt (R k e.0) ≡ true = parted total k (e ∷ es) sorted zero (suc i) d (omega arith) less is in
      let more = rank-above es i d (omega (arith, less)) (sorted_tail R e.0 (keys_of es) sorted) is in
      rw first (omega (arith, more))

  rank-below_at : (e : K × V) (es : List (K × V)) (i : ℕ) (b : Bool) → is_gt (R k e.0) ≡ b → rank R k es ≤ i → rank R k (e ∷ es) ≤ suc i
  rank-below_at e es i true is most = rw is (omega (arith, most))
  rank-below_at e es i false is most = rw is (omega arith)

  pub rank-below : (es : List (K × V)) (i : ℕ) (d : K × V) → i < length es → is_gt (R k (get_or es i d).0) ≡ false → rank R k es ≤ i
  rank-below [] i d less is = absurd (omega (arith, less))
  rank-below (e ∷ es) zero d less is = rw is (omega arith)
  rank-below (e ∷ es) (suc i) d less is = rank-below_at e es i _ refl (rank-below es i d (omega (arith, less)) is)

  starts-some_at : (e : K × V) (es : List (K × V)) (o : Ordering) → R k e.0 ≡ o → 0 < rank R k (e ∷ es) → starts_by R k (e ∷ es) ≡ true
  starts-some_at e es Less is = rw is (λ some. absurd (omega (arith, some)))
  starts-some_at e es Equal is = rw is (λ some. refl)
  starts-some_at e es Greater is = rw is (λ some. refl)

  pub starts-some : (es : List (K × V)) → 0 < rank R k es → starts_by R k es ≡ true
  starts-some [] some = absurd (omega (arith, some))
  starts-some (e ∷ es) some = starts-some_at e es _ refl some

  behind-equal : (x : K) (ys : List (K × V)) → R k x ≡ Equal → AllByRecursion (λ (y : K). R x y ≡ Less) (keys_of ys) → AreBehind R k ys
  behind-equal x [] is all = tt
  behind-equal x (y ∷ ys) is all = (total.congr k x y.0 is ∙ all.0, behind-equal x ys is all.1)

  behind-rank_at : (e : K × V) (es ys : List (K × V)) (o : Ordering) → R k e.0 ≡ o → AreRows R (e ∷ (es ++ ys)) → (rank R k es < length es → AreBehind R k ys) → rank R k (e ∷ es) < suc (length es) → AreBehind R k ys
  unfolding IsStrictlySortedBy
  behind-rank_at e es ys Less is sorted rest = λ less. behind-rows total k e.0 ys is (all-right (λ (y : K). R e.0 y ≡ Less) es ys sorted.0)
  behind-rank_at e es ys Equal is sorted rest = λ less. behind-equal e.0 ys is (all-right (λ (y : K). R e.0 y ≡ Less) es ys sorted.0)
  behind-rank_at e es ys Greater is sorted rest = rw is (λ less. rest (omega (arith, less)))

  -- where a row doesn't stand before the key, those behind its chunk stand behind the key
  pub behind-rank : (es ys : List (K × V)) → AreRows R (es ++ ys) → rank R k es < length es → AreBehind R k ys
  behind-rank [] ys sorted less = absurd (omega (arith, less))
  behind-rank (e ∷ es) ys sorted less = behind-rank_at e es ys _ refl sorted (behind-rank es ys (sorted_tail R e.0 (keys_of (es ++ ys)) sorted)) less

  pub behind-chunk : (cs : List (Vec (K × V) Global)) (i : ℕ) (d : Vec (K × V) Global) → i < length cs → AreRows R (rows_of cs) → rank R k (get_or cs i d).items < length (get_or cs i d).items → AreBehind R k (rows_of (drop (suc i) cs))
  behind-chunk cs i d less sorted few =
      behind-rank (get_or cs i d).items (rows_of (drop (suc i) cs)) (sorted-right R (rows_of (take i cs)) _ (subst (AreRows R) (rows-parts cs i d less) sorted)) few

  -- the row before the spot stands before the key, and what is at it and behind it doesn't
  pub spot-is : (cs : List (Vec (K × V) Global)) (spot : Spot) (d : Vec (K × V) Global) → spot.chunk < length cs → AreRows R (rows_of cs) → 0 < spot.row
      → spot.row ≤ rank R k (get_or cs spot.chunk d).items → ((e : Vec (K × V) Global) → rank R k (get_or cs spot.chunk e).items ≤ spot.row)
      → AreBehind R k (rows_of (drop (suc spot.chunk) cs)) → IsSpotOf R k cs spot
  spot-is cs spot d less sorted some least most behind = record {
    is = record {
      at = less;
      before = before-first total k (rows_of (take spot.chunk cs)) (get_or cs spot.chunk d).items (rows_of (drop (suc spot.chunk) cs)) (subst (AreRows R) (rows-parts cs spot.chunk d less) sorted) (starts-some (get_or cs spot.chunk d).items (omega (arith, some, least)));
      behind = behind;
    };
    place = λ e.
        let same : spot.row ≤ rank R k (get_or cs spot.chunk e).items = subst (λ (v : Vec (K × V) Global). spot.row ≤ rank R k v.items) (get-same cs spot.chunk d e less) least in
        let few = most e in
        omega (arith, same, few);
  }
