-- A list with a gap between what is on its left and on its right.
use Rattle.std.proofs.Common.{◌≡◌, ◌≤◌, ◌<◌, ℕ, suc, ◌+◌, ◌-◌, Bool, true, false, List, [], ◌∷◌, ◌++◌, length, get_or}
use Rattle.std.proofs.Common.{set, take, drop, refl, sym, ap, ◌∙◌, arith, append-nil, append_assoc}
use Rattle.std.specs.Prelude.{nat_lt}
use Rattle.std.specs.List.{All, insert, remove}
use Rattle.std.proofs.lemmas.Bool.Decides.{nat_tests}
use Rattle.std.proofs.lemmas.List.{drop_all, length-append, length-set, set_split, get_or_append_left}
use Rattle.std.proofs.lemmas.List.{get_or-append_right, set-append_left, set-append_right}
use Rattle.std.proofs.lemmas.List.Edits.{length-remove, insert-append_left, insert-append_right, remove-append_left}
use Rattle.std.proofs.lemmas.List.Edits.{remove-append_right}
use Rattle.std.proofs.lemmas.List.Elements.{All-cons, All-nil, All-head, All-tail, All-weaker}
use Rattle.track_ledger.specs.declared.piece.Piece.{Piece}
use Rattle.track_ledger.specs.Inner.GapChanges.{AreInOrder, IsFirstReaching}
use Rattle.track_ledger.specs.Inner.GapLists.{StandApart}

pub length-node : (l : List Piece) (g : Piece) (r : List Piece) → length (l ++ (g ∷ r)) ≡ length l + length r + 1
length-node l g r = omega (arith, length-append l (g ∷ r))

-- what stands at a place
pub at-left : (l : List Piece) (g : Piece) (r : List Piece) (i : ℕ) (d : Piece) → i < length l → get_or (l ++ (g ∷ r)) i d ≡ get_or l i d
at-left l g r i d less = get_or_append_left l (g ∷ r) d i less

pub at-here : (l : List Piece) (g : Piece) (r : List Piece) (i : ℕ) (d : Piece) → i ≡ length l → get_or (l ++ (g ∷ r)) i d ≡ g
at-here l g r i d is =
    let none : i - length l ≡ 0 = omega (arith, is) in
    get_or-append_right l (g ∷ r) (length l) i d refl (omega (arith, is)) ∙ ap (λ n. get_or (g ∷ r) n d) none

pub at-right : (l : List Piece) (g : Piece) (r : List Piece) (i j : ℕ) (d : Piece) → length l < i → j ≡ i - length l - 1 → get_or (l ++ (g ∷ r)) i d ≡ get_or r j d
at-right l g r i j d more is =
    let next : i - length l ≡ suc j = omega (arith, more, is) in
    get_or-append_right l (g ∷ r) (length l) i d refl (omega (arith, more)) ∙ ap (λ n. get_or (g ∷ r) n d) next

-- another gap at a place
pub set-left : (l : List Piece) (g : Piece) (r : List Piece) (i : ℕ) (x : Piece) → i < length l → set (l ++ (g ∷ r)) i x ≡ set l i x ++ (g ∷ r)
set-left l g r i x less = set-append_left l (g ∷ r) i x less

pub set-here : (l : List Piece) (g : Piece) (r : List Piece) (i : ℕ) (x : Piece) → i ≡ length l → set (l ++ (g ∷ r)) i x ≡ l ++ (x ∷ r)
set-here l g r i x is =
    let none : i - length l ≡ 0 = omega (arith, is) in
    set-append_right l (g ∷ r) (length l) i x refl (omega (arith, is)) ∙ ap (λ n. l ++ set (g ∷ r) n x) none

pub set-right : (l : List Piece) (g : Piece) (r : List Piece) (i j : ℕ) (x : Piece) → length l < i → j ≡ i - length l - 1 → set (l ++ (g ∷ r)) i x ≡ l ++ (g ∷ set r j x)
set-right l g r i j x more is =
    let next : i - length l ≡ suc j = omega (arith, more, is) in
    set-append_right l (g ∷ r) (length l) i x refl (omega (arith, more)) ∙ ap (λ n. l ++ set (g ∷ r) n x) next

-- one gap more
pub insert-left : (l : List Piece) (g : Piece) (r : List Piece) (i : ℕ) (x : Piece) → i ≤ length l → insert (l ++ (g ∷ r)) i x ≡ insert l i x ++ (g ∷ r)
insert-left l g r i x le = insert-append_left l (g ∷ r) i x le

pub insert-right : (l : List Piece) (g : Piece) (r : List Piece) (i j : ℕ) (x : Piece) → length l < i → j ≡ i - length l - 1 → insert (l ++ (g ∷ r)) i x ≡ l ++ (g ∷ insert r j x)
insert-right l g r i j x more is =
    let next : i - length l ≡ suc j = omega (arith, more, is) in
    insert-append_right l (g ∷ r) (length l) i x refl (omega (arith, more)) ∙ ap (λ n. l ++ insert (g ∷ r) n x) next

-- one gap less
pub remove-left : (l : List Piece) (g : Piece) (r : List Piece) (i : ℕ) → i < length l → remove (l ++ (g ∷ r)) i ≡ remove l i ++ (g ∷ r)
remove-left l g r i less = remove-append_left l (g ∷ r) i less

pub remove-here : (l : List Piece) (g : Piece) (r : List Piece) (i : ℕ) → i ≡ length l → remove (l ++ (g ∷ r)) i ≡ l ++ r
remove-here l g r i is =
    let none : i - length l ≡ 0 = omega (arith, is) in
    remove-append_right l (g ∷ r) (length l) i refl (omega (arith, is)) ∙ ap (λ n. l ++ remove (g ∷ r) n) none

pub remove-right : (l : List Piece) (g : Piece) (r : List Piece) (i j : ℕ) → length l < i → j ≡ i - length l - 1 → remove (l ++ (g ∷ r)) i ≡ l ++ (g ∷ remove r j)
remove-right l g r i j more is =
    let next : i - length l ≡ suc j = omega (arith, more, is) in
    remove-append_right l (g ∷ r) (length l) i refl (omega (arith, more)) ∙ ap (λ n. l ++ remove (g ∷ r) n) next

-- the first gap of a list, and the others
pub first-and-rest : (r rest : List Piece) (g d : Piece) → 0 < length r → rest ≡ remove r 0 → g ≡ get_or r 0 d → g ∷ rest ≡ r
first-and-rest [] rest g d some is at = absurd (omega arith)
first-and-rest (x ∷ xs) rest g d some is at = ap (λ (y : Piece). y ∷ rest) at ∙ ap (λ (l : List Piece). x ∷ l) is

-- gaps that stand in order by where they end
pub order-left : (l : List Piece) (g : Piece) (r : List Piece) → AreInOrder (l ++ (g ∷ r)) → AreInOrder l
order-left l g r order i j d le less =
    let h = order i j d le (omega (arith, length-node l g r, less)) in
    rw (at-left l g r i d (omega (arith, le, less)), at-left l g r j d less) at h

pub order-right : (l : List Piece) (g : Piece) (r : List Piece) → AreInOrder (l ++ (g ∷ r)) → AreInOrder r
order-right l g r order i j d le less =
    let h = order (length l + 1 + i) (length l + 1 + j) d (omega (arith, le)) (omega (arith, length-node l g r, less)) in
    rw (at-right l g r (length l + 1 + i) i d (omega arith) (omega arith), at-right l g r (length l + 1 + j) j d (omega arith) (omega arith)) at h

-- what is left where one side of a gap changed
pub after-set-left : (whole l new : List Piece) (g : Piece) (r result : List Piece) (i : ℕ) (x : Piece) → whole ≡ l ++ (g ∷ r) → i < length l → new ≡ set l i x → result ≡ new ++ (g ∷ r) → result ≡ set whole i x
after-set-left whole l new g r result i x is less now all =
    all ∙ ap (λ (n : List Piece). n ++ (g ∷ r)) now ∙ sym (set-left l g r i x less) ∙ ap (λ (w : List Piece). set w i x) (sym is)

pub after-set-here : (whole l : List Piece) (g : Piece) (r result : List Piece) (i : ℕ) (x : Piece) → whole ≡ l ++ (g ∷ r) → i ≡ length l → result ≡ l ++ (x ∷ r) → result ≡ set whole i x
after-set-here whole l g r result i x is at all = all ∙ sym (set-here l g r i x at) ∙ ap (λ (w : List Piece). set w i x) (sym is)

pub after-set-right : (whole l : List Piece) (g : Piece) (r new result : List Piece) (i j : ℕ) (x : Piece) → whole ≡ l ++ (g ∷ r) → length l < i → j ≡ i - length l - 1 → new ≡ set r j x → result ≡ l ++ (g ∷ new) → result ≡ set whole i x
after-set-right whole l g r new result i j x is more at now all =
    all ∙ ap (λ (n : List Piece). l ++ (g ∷ n)) now ∙ sym (set-right l g r i j x more at) ∙ ap (λ (w : List Piece). set w i x) (sym is)

pub after-insert-right : (whole l : List Piece) (g : Piece) (r new result : List Piece) (i j : ℕ) (x : Piece) → whole ≡ l ++ (g ∷ r) → length l < i → j ≡ i - length l - 1 → new ≡ insert r j x → result ≡ l ++ (g ∷ new)
    → result ≡ insert whole i x
after-insert-right whole l g r new result i j x is more at now all =
    all ∙ ap (λ (n : List Piece). l ++ (g ∷ n)) now ∙ sym (insert-right l g r i j x more at) ∙ ap (λ (w : List Piece). insert w i x) (sym is)

pub after-remove-right : (whole l : List Piece) (g : Piece) (r new result : List Piece) (i j : ℕ) → whole ≡ l ++ (g ∷ r) → length l < i → j ≡ i - length l - 1 → new ≡ remove r j → result ≡ l ++ (g ∷ new) → result ≡ remove whole i
after-remove-right whole l g r new result i j is more at now all =
    all ∙ ap (λ (n : List Piece). l ++ (g ∷ n)) now ∙ sym (remove-right l g r i j more at) ∙ ap (λ (w : List Piece). remove w i) (sym is)

pub at-right-in : (whole l : List Piece) (g : Piece) (r : List Piece) (i j : ℕ) (x d : Piece) → whole ≡ l ++ (g ∷ r) → length l < i → j ≡ i - length l - 1 → x ≡ get_or r j d → x ≡ get_or whole i d
at-right-in whole l g r i j x d is more at here = here ∙ sym (at-right l g r i j d more at) ∙ ap (λ (w : List Piece). get_or w i d) (sym is)

-- the first gap on the right comes in place of the one that goes
pub after-remove-here : (whole l : List Piece) (g next d : Piece) (r rest result : List Piece) (i : ℕ) → whole ≡ l ++ (g ∷ r) → i ≡ length l → 0 < length r → rest ≡ remove r 0 → next ≡ get_or r 0 d → result ≡ l ++ (next ∷ rest)
    → result ≡ remove whole i
after-remove-here whole l g next d r rest result i is at some left first all =
    all ∙ ap (λ (n : List Piece). l ++ n) (first-and-rest r rest next d some left first) ∙ sym (remove-here l g r i at) ∙ ap (λ (w : List Piece). remove w i) (sym is)

-- where the first gap stands that ends at a track or behind it
before-right : (l : List Piece) (g : Piece) (r : List Piece) (track j k : ℕ) (d : Piece) (b : Bool) → nat_lt (length l) k ≡ b → AreInOrder (l ++ (g ∷ r)) → g.start + g.length < track → IsFirstReaching r track j → k < length l + 1 + j
    → (get_or (l ++ (g ∷ r)) k d).start + (get_or (l ++ (g ∷ r)) k d).length < track
before-right l g r track j k d true is order low h less =
    let more : length l < k = grind (arith, nat_tests, is) in
    let m = k - length l - 1 in
    let here = h.before m d (omega arith) (omega (arith, more, less)) in
    rw (at-right l g r k m d more refl) here
before-right l g r track j k d false is order low h less =
    let le : k ≤ length l = grind (arith, nat_tests, is) in
    let up = order k (length l) d le (omega (arith, length-node l g r)) in
    let there = rw (at-here l g r (length l) d refl) at up in
    omega (arith, there, low)

pub reach-right : (l : List Piece) (g : Piece) (r : List Piece) (track i j : ℕ) → AreInOrder (l ++ (g ∷ r)) → g.start + g.length < track → IsFirstReaching r track j → i ≡ length l + 1 + j → IsFirstReaching (l ++ (g ∷ r)) track i
reach-right l g r track i j order low h is =
    let le = h.at in
    let count = length-node l g r in
    record {
      at = omega (arith, count, le, is);
      before = λ k d zero less. before-right l g r track j k d _ refl order low h (omega (arith, less, is));
      behind = λ k d from less.
          let more : length l < k = omega (arith, from, is) in
          let m = k - length l - 1 in
          let here = h.behind m d (omega (arith, from, is)) (omega (arith, more, less, count)) in
          rw (at-right l g r k m d more refl) here;
    }

behind-left : (l : List Piece) (g : Piece) (r : List Piece) (track j k : ℕ) (d : Piece) (b : Bool) → nat_lt k (length l) ≡ b → AreInOrder (l ++ (g ∷ r)) → track ≤ g.start + g.length → IsFirstReaching l track j → j ≤ k → k < length (l ++ (g ∷ r))
    → track ≤ (get_or (l ++ (g ∷ r)) k d).start + (get_or (l ++ (g ∷ r)) k d).length
behind-left l g r track j k d true is order high h from less =
    let low : k < length l = grind (arith, nat_tests, is) in
    let here = h.behind k d from low in
    rw (at-left l g r k d low) here
behind-left l g r track j k d false is order high h from less =
    let le : length l ≤ k = grind (arith, nat_tests, is) in
    let up = order (length l) k d le less in
    let there = rw (at-here l g r (length l) d refl) at up in
    omega (arith, there, high)

pub reach-left : (l : List Piece) (g : Piece) (r : List Piece) (track j : ℕ) → AreInOrder (l ++ (g ∷ r)) → track ≤ g.start + g.length → IsFirstReaching l track j → IsFirstReaching (l ++ (g ∷ r)) track j
reach-left l g r track j order high h =
    let le = h.at in
    let count = length-node l g r in
    record {
      at = omega (arith, count, le);
      before = λ k d zero less.
          let low : k < length l = omega (arith, less, le) in
          let here = h.before k d zero less in
          rw (at-left l g r k d low) here;
      behind = λ k d from less. behind-left l g r track j k d _ refl order high h from less;
    }

-- gaps that stand apart
all-front : (P : Piece → Type 0) (xs ys : List Piece) → All P (xs ++ ys) → All P xs
all-front P [] ys all = All-nil P
all-front P (x ∷ xs) ys all = All-cons P x xs (All-head P x (xs ++ ys) all) (all-front P xs ys (All-tail P x (xs ++ ys) all))

pub apart-left : (l : List Piece) (g : Piece) (r : List Piece) → StandApart (l ++ (g ∷ r)) → StandApart l
apart-left [] g r apart = tt
apart-left (x ∷ l) g r apart = (all-front (λ (o : Piece). x.start + x.length ≤ o.start) l (g ∷ r) apart.0, apart-left l g r apart.1)

apart-back : (l : List Piece) (g : Piece) (r : List Piece) → StandApart (l ++ (g ∷ r)) → StandApart (g ∷ r)
apart-back [] g r apart = apart
apart-back (x ∷ l) g r apart = apart-back l g r apart.1

pub apart-right : (l : List Piece) (g : Piece) (r : List Piece) → StandApart (l ++ (g ∷ r)) → StandApart r
apart-right l g r apart = (apart-back l g r apart).1

-- those on the right begin behind the gap, or at it
pub starts-right : (l : List Piece) (g : Piece) (r : List Piece) → StandApart (l ++ (g ∷ r)) → All (λ (o : Piece). g.start ≤ o.start) r
starts-right l g r apart =
    All-weaker (λ (o : Piece). g.start + g.length ≤ o.start) (λ (o : Piece). g.start ≤ o.start) (λ o le. omega (arith, le)) r (apart-back l g r apart).0

pub starts-left : (from : ℕ) (l : List Piece) (g : Piece) (r : List Piece) → All (λ (o : Piece). from ≤ o.start) (l ++ (g ∷ r)) → All (λ (o : Piece). from ≤ o.start) l
starts-left from l g r all = all-front (λ (o : Piece). from ≤ o.start) l (g ∷ r) all

-- two gaps in place of one
pub after-part-left : (whole l new : List Piece) (g : Piece) (r result : List Piece) (i : ℕ) (x y : Piece) → whole ≡ l ++ (g ∷ r) → i < length l → new ≡ insert (set l i x) (i + 1) y → result ≡ new ++ (g ∷ r)
    → result ≡ insert (set whole i x) (i + 1) y
after-part-left whole l new g r result i x y is less now all =
    all ∙ ap (λ (n : List Piece). n ++ (g ∷ r)) now ∙ sym (insert-left (set l i x) g r (i + 1) y (omega (arith, length-set l i x, less)))
    ∙ ap (λ (w : List Piece). insert w (i + 1) y) (sym (set-left l g r i x less) ∙ ap (λ (w : List Piece). set w i x) (sym is))

pub after-part-right : (whole l : List Piece) (g : Piece) (r new result : List Piece) (i j : ℕ) (x y : Piece) → whole ≡ l ++ (g ∷ r) → length l < i → j ≡ i - length l - 1 → new ≡ insert (set r j x) (j + 1) y → result ≡ l ++ (g ∷ new)
    → result ≡ insert (set whole i x) (i + 1) y
after-part-right whole l g r new result i j x y is more at now all =
    all ∙ ap (λ (n : List Piece). l ++ (g ∷ n)) now ∙ sym (insert-right l g (set r j x) (i + 1) (j + 1) y (omega (arith, more)) (omega (arith, more, at)))
    ∙ ap (λ (w : List Piece). insert w (i + 1) y) (sym (set-right l g r i j x more at) ∙ ap (λ (w : List Piece). set w i x) (sym is))

pub after-part-here : (whole l : List Piece) (g : Piece) (r new result : List Piece) (i : ℕ) (x y : Piece) → whole ≡ l ++ (g ∷ r) → i ≡ length l → new ≡ insert r 0 y → result ≡ l ++ (x ∷ new) → result ≡ insert (set whole i x) (i + 1) y
after-part-here whole l g r new result i x y is at now all =
    all ∙ ap (λ (n : List Piece). l ++ (x ∷ n)) now ∙ sym (insert-right l x r (i + 1) 0 y (omega (arith, at)) (omega (arith, at)))
    ∙ ap (λ (w : List Piece). insert w (i + 1) y) (sym (set-here l g r i x at) ∙ ap (λ (w : List Piece). set w i x) (sym is))

-- one gap in place of two
pub after-join-left : (whole l new : List Piece) (g : Piece) (r result : List Piece) (i : ℕ) (x : Piece) → whole ≡ l ++ (g ∷ r) → i + 1 < length l → new ≡ remove (set l i x) (i + 1) → result ≡ new ++ (g ∷ r) → result ≡ remove (set whole i x) (i + 1)
after-join-left whole l new g r result i x is less now all =
    all ∙ ap (λ (n : List Piece). n ++ (g ∷ r)) now ∙ sym (remove-left (set l i x) g r (i + 1) (omega (arith, length-set l i x, less)))
    ∙ ap (λ (w : List Piece). remove w (i + 1)) (sym (set-left l g r i x (omega (arith, less))) ∙ ap (λ (w : List Piece). set w i x) (sym is))

pub after-join-right : (whole l : List Piece) (g : Piece) (r new result : List Piece) (i j : ℕ) (x : Piece) → whole ≡ l ++ (g ∷ r) → length l < i → j ≡ i - length l - 1 → new ≡ remove (set r j x) (j + 1) → result ≡ l ++ (g ∷ new)
    → result ≡ remove (set whole i x) (i + 1)
after-join-right whole l g r new result i j x is more at now all =
    all ∙ ap (λ (n : List Piece). l ++ (g ∷ n)) now ∙ sym (remove-right l g (set r j x) (i + 1) (j + 1) (omega (arith, more)) (omega (arith, more, at)))
    ∙ ap (λ (w : List Piece). remove w (i + 1)) (sym (set-right l g r i j x more at) ∙ ap (λ (w : List Piece). set w i x) (sym is))

pub after-join-here : (whole l : List Piece) (g : Piece) (r new result : List Piece) (i : ℕ) (x : Piece) → whole ≡ l ++ (g ∷ r) → i ≡ length l → new ≡ remove r 0 → result ≡ l ++ (x ∷ new) → result ≡ remove (set whole i x) (i + 1)
after-join-here whole l g r new result i x is at now all =
    all ∙ ap (λ (n : List Piece). l ++ (x ∷ n)) now ∙ sym (remove-right l x r (i + 1) 0 (omega (arith, at)) (omega (arith, at)))
    ∙ ap (λ (w : List Piece). remove w (i + 1)) (sym (set-here l g r i x at) ∙ ap (λ (w : List Piece). set w i x) (sym is))

-- the last gap on the left becomes another, in place of the one in the middle
last-set : (l : List Piece) (i : ℕ) (x : Piece) → i + 1 ≡ length l → set l i x ≡ remove l i ++ (x ∷ [])
last-set l i x last =
    let none : drop (suc i) l ≡ [] = drop_all (suc i) l (omega (arith, last)) in
    set_split l i x (omega (arith, last)) ∙ ap (λ (d : List Piece). take i l ++ (x ∷ d)) none
    ∙ ap (λ (f : List Piece). f ++ (x ∷ [])) (sym (ap (λ (d : List Piece). take i l ++ d) none ∙ append-nil (take i l)))

pub after-join-last : (whole l : List Piece) (g : Piece) (r new result : List Piece) (i : ℕ) (x : Piece) → whole ≡ l ++ (g ∷ r) → i + 1 ≡ length l → new ≡ remove l i → result ≡ new ++ (x ∷ r) → result ≡ remove (set whole i x) (i + 1)
after-join-last whole l g r new result i x is last now all =
    all ∙ ap (λ (n : List Piece). n ++ (x ∷ r)) now ∙ sym (append_assoc (remove l i) (x ∷ []) r) ∙ ap (λ (n : List Piece). n ++ r) (sym (last-set l i x last))
    ∙ sym (remove-here (set l i x) g r (i + 1) (omega (arith, length-set l i x, last)))
    ∙ ap (λ (w : List Piece). remove w (i + 1)) (sym (set-left l g r i x (omega (arith, last))) ∙ ap (λ (w : List Piece). set w i x) (sym is))

-- how many gaps are left
pub fewer-removed : (l new : List Piece) (i : ℕ) → i < length l → new ≡ remove l i → length new + 1 ≡ length l
fewer-removed l new i less is = ap (λ (n : List Piece). length n + 1) is ∙ length-remove l i less

pub fewer-joined : (l new : List Piece) (i : ℕ) (x : Piece) → i + 1 < length l → new ≡ remove (set l i x) (i + 1) → length new + 1 ≡ length l
fewer-joined l new i x less is = fewer-removed (set l i x) new (i + 1) (omega (arith, length-set l i x, less)) is ∙ length-set l i x
