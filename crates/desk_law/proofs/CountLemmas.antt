-- What extents hold of a volume, counted.
use Rattle.std.proofs.Common.{◌≡◌, ◌≤◌, ℕ, zero, suc, ◌+◌, Bool, true, false, cond, List, [], ◌∷◌, ◌++◌, length, refl}
use Rattle.std.proofs.Common.{sym, ap, ◌∙◌, arith}
use Rattle.std.specs.Prelude.{bytes_eq, not}
use Rattle.std.specs.List.{sum_by}
use Rattle.std.proofs.lemmas.List.Sums.{sum_by-append, sum_by-cons}
use Rattle.sms_construct.specs.declared.data_set.DataSet.{DataSet}
use Rattle.sms_construct.specs.declared.extent.Extent.{Extent}
use Rattle.sms_keeper.specs.Tables.{put_set, without_set}
use Rattle.track_ledger.specs.declared.piece.Piece.{Piece}
use Rattle.track_ledger.specs.Extents.{AreAlike}
use Rattle.track_ledger.specs.Gaps.{holds, times_held}
use Rattle.desk_law.specs.Extents.{extents_at, extents_named, extents_of, piece_of, pieces_on}
use Rattle.desk_law.specs.Lawful.{times_named}
use Rattle.desk_law.proofs.ByteLemmas.{same-bytes}

-- Pieces.

-- how often a piece holds a track, as a number
abbrev pub once_of : ℕ → Piece → ℕ
once_of track piece = cond (holds piece track) 1 0

pub times-is : (pieces : List Piece) (track : ℕ) → times_held pieces track ≡ sum_by (once_of track) pieces
times-is [] track = refl
times-is (p ∷ pieces) track = omega (arith, times-is pieces track, sum_by-cons (once_of track) p pieces)

pub length-is : (pieces : List Piece) → length pieces ≡ sum_by (λ (p : Piece). 1) pieces
length-is [] = refl
length-is (p ∷ pieces) = omega (arith, length-is pieces, sum_by-cons (λ (q : Piece). 1) p pieces)

-- Extents, whatever is counted of their pieces on a volume.

abbrev pub sum_on : (Piece → ℕ) → List ℕ → List Extent → ℕ
sum_on f volser es = sum_by f (pieces_on volser es)

pick-sum : (f : Piece → ℕ) (b : Bool) (p : Piece) (l : List Piece) → sum_by f (cond b (p ∷ l) l) ≡ cond b (f p) 0 + sum_by f l
pick-sum f true p l = sum_by-cons f p l
pick-sum f false p l = omega arith

pub sum-cons : (f : Piece → ℕ) (v : List ℕ) (e : Extent) (es : List Extent) → sum_on f v (e ∷ es) ≡ cond (bytes_eq e.volser v) (f (piece_of e)) 0 + sum_on f v es
sum-cons f v e es = pick-sum f (bytes_eq e.volser v) (piece_of e) (pieces_on v es)

pub sum-append : (f : Piece → ℕ) (v : List ℕ) (a b : List Extent) → sum_on f v (a ++ b) ≡ sum_on f v a + sum_on f v b
sum-append f v [] b = omega arith
sum-append f v (e ∷ a) b = omega (arith, sum-cons f v e (a ++ b), sum-cons f v e a, sum-append f v a b)

-- how often the extents hold a track of the volume, and how many there are on it
abbrev pub times_on : List ℕ → List Extent → ℕ → ℕ
times_on volser es t = times_held (pieces_on volser es) t

abbrev pub count_on : List ℕ → List Extent → ℕ
count_on volser es = length (pieces_on volser es)

pub count-cons : (v : List ℕ) (e : Extent) (es : List Extent) → count_on v (e ∷ es) ≡ cond (bytes_eq e.volser v) 1 0 + count_on v es
count-cons v e es = omega (arith, length-is (pieces_on v (e ∷ es)), length-is (pieces_on v es), sum-cons (λ (p : Piece). 1) v e es)

pub times-append : (v : List ℕ) (a b : List Extent) (t : ℕ) → times_on v (a ++ b) t ≡ times_on v a t + times_on v b t
times-append v a b t = omega (arith, times-is (pieces_on v (a ++ b)) t, times-is (pieces_on v a) t, times-is (pieces_on v b) t, sum-append (once_of t) v a b)

pub count-append : (v : List ℕ) (a b : List Extent) → count_on v (a ++ b) ≡ count_on v a + count_on v b
count-append v a b = omega (arith, length-is (pieces_on v (a ++ b)), length-is (pieces_on v a), length-is (pieces_on v b), sum-append (λ (p : Piece). 1) v a b)

-- pieces of one volume
pub pieces-at : (w v : List ℕ) (pieces : List Piece) → bytes_eq w v ≡ true → pieces_on v (extents_at w pieces) ≡ pieces
pieces-at w v [] is = refl
pieces-at w v (p ∷ pieces) is = rw is (ap (λ (l : List Piece). p ∷ l) (pieces-at w v pieces is))

pub pieces-off : (w v : List ℕ) (pieces : List Piece) → bytes_eq w v ≡ false → pieces_on v (extents_at w pieces) ≡ []
pieces-off w v [] is = refl
pieces-off w v (p ∷ pieces) is = rw is (pieces-off w v pieces is)

-- Data sets.

abbrev pub sum_all : (Piece → ℕ) → List ℕ → List DataSet → ℕ
sum_all f volser sets = sum_on f volser (extents_of sets)

pub all-cons : (f : Piece → ℕ) (v : List ℕ) (set : DataSet) (sets : List DataSet) → sum_all f v (set ∷ sets) ≡ sum_on f v set.extents + sum_all f v sets
all-cons f v set sets = sum-append f v set.extents (extents_of sets)

all-push : (f : Piece → ℕ) (v : List ℕ) (sets : List DataSet) (set : DataSet) → sum_all f v (sets ++ set ∷ []) ≡ sum_all f v sets + sum_on f v set.extents
all-push f v [] set = omega (arith, all-cons f v set [])
all-push f v (x ∷ sets) set = omega (arith, all-cons f v x (sets ++ set ∷ []), all-cons f v x sets, all-push f v sets set)

pub all-append : (f : Piece → ℕ) (v : List ℕ) (a b : List DataSet) → sum_all f v (a ++ b) ≡ sum_all f v a + sum_all f v b
all-append f v [] b = omega arith
all-append f v (x ∷ a) b = omega (arith, all-cons f v x (a ++ b), all-cons f v x a, all-append f v a b)

-- without those of a name of which there are none, all stay
none-without-at : (dsn : List ℕ) (set : DataSet) (sets : List DataSet) (b : Bool) → bytes_eq set.dsn dsn ≡ b → times_named dsn (set ∷ sets) ≡ 0 → (times_named dsn sets ≡ 0 → without_set dsn sets ≡ sets)
    → without_set dsn (set ∷ sets) ≡ set ∷ sets
none-without-at dsn set sets true is none rest =
    let one : cond (bytes_eq set.dsn dsn) 1 zero ≡ suc zero = rw is refl in absurd (omega (arith, none, one))
none-without-at dsn set sets false is none rest = rw is (ap (λ (l : List DataSet). set ∷ l) (rest (omega (arith, none))))

none-without : (dsn : List ℕ) (sets : List DataSet) → times_named dsn sets ≡ 0 → without_set dsn sets ≡ sets
none-without dsn [] none = refl
none-without dsn (set ∷ sets) none = none-without-at dsn set sets _ refl none (none-without dsn sets)

all-without-at : (f : Piece → ℕ) (v dsn : List ℕ) (set : DataSet) (sets : List DataSet) (b : Bool) → bytes_eq set.dsn dsn ≡ b → times_named dsn (set ∷ sets) ≤ 1
    → (times_named dsn sets ≤ 1 → sum_all f v (without_set dsn sets) + sum_on f v (extents_named dsn sets) ≡ sum_all f v sets)
    → sum_all f v (without_set dsn (set ∷ sets)) + sum_on f v (extents_named dsn (set ∷ sets)) ≡ sum_all f v (set ∷ sets)
all-without-at f v dsn set sets true is once rest =
    let one : cond (bytes_eq set.dsn dsn) 1 zero ≡ suc zero = rw is refl in
    let stay : sum_all f v (without_set dsn sets) ≡ sum_all f v sets = ap (sum_all f v) (none-without dsn sets (omega (arith, once, one))) in
    rw is (omega (arith, stay, all-cons f v set sets))
all-without-at f v dsn set sets false is once rest =
    let fewer : times_named dsn sets ≤ 1 = omega (arith, once) in
    rw is (omega (arith, rest fewer, all-cons f v set sets, all-cons f v set (without_set dsn sets)))

-- the data set of a name and the others hold what all hold, where no name stands twice
pub all-without : (f : Piece → ℕ) (v dsn : List ℕ) (sets : List DataSet) → times_named dsn sets ≤ 1 → sum_all f v (without_set dsn sets) + sum_on f v (extents_named dsn sets) ≡ sum_all f v sets
all-without f v dsn [] once = refl
all-without f v dsn (set ∷ sets) once = all-without-at f v dsn set sets _ refl once (all-without f v dsn sets)

-- a data set in place of the one of its name
pub all-put : (f : Piece → ℕ) (v : List ℕ) (set : DataSet) (sets : List DataSet) → times_named set.dsn sets ≤ 1
    → sum_all f v (put_set set sets) + sum_on f v (extents_named set.dsn sets) ≡ sum_all f v sets + sum_on f v set.extents
all-put f v set sets once = omega (arith, all-push f v (without_set set.dsn sets) set, all-without f v set.dsn sets once)

-- how often a track is held then
pub times-put : (v : List ℕ) (set : DataSet) (sets : List DataSet) (t : ℕ) → times_named set.dsn sets ≤ 1
    → times_on v (extents_of (put_set set sets)) t + times_on v (extents_named set.dsn sets) t ≡ times_on v (extents_of sets) t + times_on v set.extents t
times-put v set sets t once =
    omega (
      arith,
      all-put (once_of t) v set sets once,
      times-is (pieces_on v (extents_of (put_set set sets))) t,
      times-is (pieces_on v (extents_named set.dsn sets)) t,
      times-is (pieces_on v (extents_of sets)) t,
      times-is (pieces_on v set.extents) t,
    )

pub times-without : (v dsn : List ℕ) (sets : List DataSet) (t : ℕ) → times_named dsn sets ≤ 1
    → times_on v (extents_of (without_set dsn sets)) t + times_on v (extents_named dsn sets) t ≡ times_on v (extents_of sets) t
times-without v dsn sets t once =
    omega (
      arith,
      all-without (once_of t) v dsn sets once,
      times-is (pieces_on v (extents_of (without_set dsn sets))) t,
      times-is (pieces_on v (extents_named dsn sets)) t,
      times-is (pieces_on v (extents_of sets)) t,
    )

-- Lists of pieces whatever of which is counted comes to as much are alike.

sums-alike : (pieces others : List Piece) → ((f : Piece → ℕ) → sum_by f pieces ≡ sum_by f others) → AreAlike pieces others
sums-alike pieces others same = record {
  times = λ t. times-is pieces t ∙ (same (once_of t) ∙ sym (times-is others t));
  count = length-is pieces ∙ (same (λ (p : Piece). 1) ∙ sym (length-is others));
}

pub alike-put : (v : List ℕ) (set : DataSet) (sets : List DataSet) → times_named set.dsn sets ≤ 1
    → AreAlike (pieces_on v (extents_of (put_set set sets)) ++ pieces_on v (extents_named set.dsn sets)) (pieces_on v (extents_of sets) ++ pieces_on v set.extents)
alike-put v set sets once = sums-alike _ _ (λ f.
    sum_by-append f (pieces_on v (extents_of (put_set set sets))) (pieces_on v (extents_named set.dsn sets))
    ∙ (all-put f v set sets once ∙ sym (sum_by-append f (pieces_on v (extents_of sets)) (pieces_on v set.extents))))

pub alike-without : (v dsn : List ℕ) (sets : List DataSet) → times_named dsn sets ≤ 1
    → AreAlike (pieces_on v (extents_of (without_set dsn sets)) ++ pieces_on v (extents_named dsn sets)) (pieces_on v (extents_of sets))
alike-without v dsn sets once = sums-alike _ _ (λ f.
    sum_by-append f (pieces_on v (extents_of (without_set dsn sets))) (pieces_on v (extents_named dsn sets)) ∙ all-without f v dsn sets once)

-- Names.

pick-less : (b : Bool) (n : ℕ) → cond b 0 n ≤ n
pick-less true n = omega arith
pick-less false n = omega arith

pick-names : (b : Bool) (n : List ℕ) (set : DataSet) (rest : List DataSet) → times_named n (cond (not b) (set ∷ rest) rest) ≡ cond b 0 (cond (bytes_eq set.dsn n) 1 0) + times_named n rest
pick-names true n set rest = omega arith
pick-names false n set rest = refl

pub names-without : (n dsn : List ℕ) (sets : List DataSet) → times_named n (without_set dsn sets) ≤ times_named n sets
names-without n dsn [] = omega arith
names-without n dsn (set ∷ sets) =
    omega (arith, pick-names (bytes_eq set.dsn dsn) n set (without_set dsn sets), pick-less (bytes_eq set.dsn dsn) (cond (bytes_eq set.dsn n) 1 0), names-without n dsn sets)

gone-at : (n : List ℕ) (set : DataSet) (sets : List DataSet) (b : Bool) → bytes_eq set.dsn n ≡ b → times_named n (without_set n sets) ≡ 0 → times_named n (without_set n (set ∷ sets)) ≡ 0
gone-at n set sets true is rest = rw is rest
gone-at n set sets false is rest =
    let none : cond (bytes_eq set.dsn n) 1 zero ≡ zero = rw is refl in
    rw is (omega (arith, none, rest))

pub names-gone : (n : List ℕ) (sets : List DataSet) → times_named n (without_set n sets) ≡ 0
names-gone n [] = refl
names-gone n (set ∷ sets) = gone-at n set sets _ refl (names-gone n sets)

pub names-push : (n : List ℕ) (sets : List DataSet) (set : DataSet) → times_named n (sets ++ set ∷ []) ≡ times_named n sets + cond (bytes_eq set.dsn n) 1 0
names-push n [] set = omega arith
names-push n (x ∷ sets) set = omega (arith, names-push n sets set)

put-at : (n : List ℕ) (set : DataSet) (sets : List DataSet) (b : Bool) → bytes_eq set.dsn n ≡ b → times_named n sets ≤ 1 → times_named n (put_set set sets) ≤ 1
put-at n set sets true is once =
    let gone : times_named n (without_set set.dsn sets) ≡ 0 = ap (λ d. times_named n (without_set d sets)) (same-bytes set.dsn n is) ∙ names-gone n sets in
    let one : cond (bytes_eq set.dsn n) 1 zero ≡ suc zero = rw is refl in
    omega (arith, names-push n (without_set set.dsn sets) set, gone, one)
put-at n set sets false is once =
    let none : cond (bytes_eq set.dsn n) 1 zero ≡ zero = rw is refl in
    omega (arith, names-push n (without_set set.dsn sets) set, names-without n set.dsn sets, none, once)

pub names-put : (n : List ℕ) (set : DataSet) (sets : List DataSet) → times_named n sets ≤ 1 → times_named n (put_set set sets) ≤ 1
names-put n set sets once = put-at n set sets _ refl once
