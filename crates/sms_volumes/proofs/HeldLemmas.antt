-- What a ledger stands for, apart from the order of the pieces, when a data set is put or dropped.
use Rattle.std.proofs.Common.{◌≡◌, ℕ, zero, suc, ◌+◌, Bool, true, false, List, [], ◌∷◌, ◌++◌, refl, sym, ap, ◌∙◌, subst}
use Rattle.std.proofs.Common.{arith, append_assoc, length-append}
use Rattle.std.specs.Prelude.{bytes_eq}
use Rattle.std.specs.List.{All}
use Rattle.std.proofs.lemmas.List.{append-nil}
use Rattle.std.proofs.lemmas.List.Elements.{All-append, All-cons, All-head, All-nil, All-tail}
use Rattle.sms_construct.specs.declared.data_set.DataSet.{DataSet}
use Rattle.sms_construct.specs.declared.extent.Extent.{Extent}
use Rattle.sms_keeper.specs.Tables.{put_set, without_set}
use Rattle.track_ledger.specs.declared.piece.Piece.{Piece}
use Rattle.track_ledger.specs.Extents.{AreAlike, LiesInside, NoTrackTwice, tracks_held}
use Rattle.track_ledger.specs.Gaps.{gaps_of}
use Rattle.track_ledger.specs.Ledger.{IsLedgerOf, LedgerView}
use Rattle.track_ledger.proofs.HolderLemmas.{gaps-sum, times-append}
use Rattle.track_ledger.proofs.LedgerLemmas.{ledger-alike}
use Rattle.desk_law.specs.State.{DeskState, with_set, without_name}
use Rattle.desk_law.specs.Extents.{extents_named, extents_of, held_on, piece_of, pieces_on}
use Rattle.desk_law.specs.Lawful.{IsLawful}
use Rattle.desk_law.proofs.CountLemmas.{alike-without}

-- Pieces of a volume.

pieces-append-at : (v : List ℕ) (e : Extent) (a b : List Extent) (c : Bool) → bytes_eq e.volser v ≡ c → pieces_on v (a ++ b) ≡ pieces_on v a ++ pieces_on v b
    → pieces_on v ((e ∷ a) ++ b) ≡ pieces_on v (e ∷ a) ++ pieces_on v b
pieces-append-at v e a b true is rest = rw is (ap (λ (l : List Piece). piece_of e ∷ l) rest)
pieces-append-at v e a b false is rest = rw is rest

pub pieces-append : (v : List ℕ) (a b : List Extent) → pieces_on v (a ++ b) ≡ pieces_on v a ++ pieces_on v b
pieces-append v [] b = refl
pieces-append v (e ∷ a) b = pieces-append-at v e a b _ refl (pieces-append v a b)

extents-push : (sets : List DataSet) (set : DataSet) → extents_of (sets ++ set ∷ []) ≡ extents_of sets ++ set.extents
extents-push [] set = append-nil set.extents
extents-push (x ∷ sets) set = ap (λ (l : List Extent). x.extents ++ l) (extents-push sets set) ∙ sym (append_assoc x.extents (extents_of sets) set.extents)

-- Parts of a list.

all-left : (P : Piece → Type 0) (a b : List Piece) → All P (a ++ b) → All P a
all-left P [] b all = All-nil P
all-left P (p ∷ a) b all = All-cons P p a (All-head P p (a ++ b) all) (all-left P a b (All-tail P p (a ++ b) all))

all-right : (P : Piece → Type 0) (a b : List Piece) → All P (a ++ b) → All P b
all-right P [] b all = all
all-right P (p ∷ a) b all = all-right P a b (All-tail P p (a ++ b) all)

-- Another order.

swapped-alike : (a b c : List Piece) → AreAlike (a ++ (b ++ c)) (b ++ (a ++ c))
swapped-alike a b c = record {
  times = λ t. omega (arith, times-append a (b ++ c) t, times-append b c t, times-append b (a ++ c) t, times-append a c t);
  count = omega (arith, length-append a (b ++ c), length-append b c, length-append b (a ++ c), length-append a c);
}

all-swapped : (P : Piece → Type 0) (a b c : List Piece) → All P (a ++ (b ++ c)) → All P (b ++ (a ++ c))
all-swapped P a b c all =
    let rest = all-right P a (b ++ c) all in
    All-append P b (a ++ c) (all-left P b c rest) (All-append P a c (all-left P a (b ++ c) all) (all-right P b c rest))

pub ledger-swap : (a b c : List Piece) (l : LedgerView) → IsLedgerOf (a ++ (b ++ c)) l → IsLedgerOf (b ++ (a ++ c)) l
ledger-swap a b c l is = ledger-alike (a ++ (b ++ c)) (b ++ (a ++ c)) l is (swapped-alike a b c) (all-swapped (LiesInside l.capacity) a b c is.inside)

pub ledger-turn : (a b : List Piece) (l : LedgerView) → IsLedgerOf (a ++ b) l → IsLedgerOf (b ++ a) l
ledger-turn a b l is =
    subst (λ (x : List Piece). IsLedgerOf (b ++ x) l) (append-nil a) (ledger-swap a b [] l (subst (λ (x : List Piece). IsLedgerOf (a ++ x) l) (sym (append-nil b)) is))

-- The data set of a name and the others.

all-others-at : (P : Piece → Type 0) (v dsn : List ℕ) (set : DataSet) (sets : List DataSet) (b : Bool) → bytes_eq set.dsn dsn ≡ b → All P (pieces_on v set.extents)
    → All P (pieces_on v (extents_of (without_set dsn sets))) → All P (pieces_on v (extents_of (without_set dsn (set ∷ sets))))
all-others-at P v dsn set sets true is here rest = rw is rest
all-others-at P v dsn set sets false is here rest =
    rw is (subst (All P) (sym (pieces-append v set.extents (extents_of (without_set dsn sets)))) (All-append P (pieces_on v set.extents) (pieces_on v (extents_of (without_set dsn sets))) here rest))

all-others : (P : Piece → Type 0) (v dsn : List ℕ) (sets : List DataSet) → All P (pieces_on v (extents_of sets)) → All P (pieces_on v (extents_of (without_set dsn sets)))
all-others P v dsn [] all = all
all-others P v dsn (set ∷ sets) all =
    let parts : All P (pieces_on v set.extents ++ pieces_on v (extents_of sets)) = subst (All P) (pieces-append v set.extents (extents_of sets)) all in
    all-others-at P v dsn set sets _ refl (all-left P (pieces_on v set.extents) (pieces_on v (extents_of sets)) parts)
    (all-others P v dsn sets (all-right P (pieces_on v set.extents) (pieces_on v (extents_of sets)) parts))

all-own-at : (P : Piece → Type 0) (v dsn : List ℕ) (set : DataSet) (sets : List DataSet) (b : Bool) → bytes_eq set.dsn dsn ≡ b → All P (pieces_on v set.extents)
    → All P (pieces_on v (extents_named dsn sets)) → All P (pieces_on v (extents_named dsn (set ∷ sets)))
all-own-at P v dsn set sets true is here rest = rw is here
all-own-at P v dsn set sets false is here rest = rw is rest

all-own : (P : Piece → Type 0) (v dsn : List ℕ) (sets : List DataSet) → All P (pieces_on v (extents_of sets)) → All P (pieces_on v (extents_named dsn sets))
all-own P v dsn [] all = all
all-own P v dsn (set ∷ sets) all =
    let parts : All P (pieces_on v set.extents ++ pieces_on v (extents_of sets)) = subst (All P) (pieces-append v set.extents (extents_of sets)) all in
    all-own-at P v dsn set sets _ refl (all-left P (pieces_on v set.extents) (pieces_on v (extents_of sets)) parts)
    (all-own P v dsn sets (all-right P (pieces_on v set.extents) (pieces_on v (extents_of sets)) parts))

-- what the data set of a name holds, and what the others do
pub ledger-split : (s : DeskState) (dsn v : List ℕ) (front : List Piece) (l : LedgerView) → IsLawful s → IsLedgerOf (front ++ held_on s v) l
    → IsLedgerOf (front ++ (pieces_on v (extents_named dsn s.sets) ++ held_on (without_name s dsn) v)) l
ledger-split s dsn v front l lawful is =
    let own = pieces_on v (extents_named dsn s.sets) in
    let others = held_on (without_name s dsn) v in
    let alike = alike-without v dsn s.sets (lawful.names dsn) in
    let inside = all-right (LiesInside l.capacity) front (held_on s v) is.inside in
    ledger-alike (front ++ held_on s v) (front ++ (own ++ others)) l is
    (record {
      times = λ t. omega (arith, times-append front (held_on s v) t, times-append front (own ++ others) t, times-append own others t, times-append others own t, alike.times t);
      count = omega (arith, length-append front (held_on s v), length-append front (own ++ others), length-append own others, length-append others own, alike.count);
    })
    (All-append (LiesInside l.capacity) front (own ++ others) (all-left (LiesInside l.capacity) front (held_on s v) is.inside)
    (All-append (LiesInside l.capacity) own others (all-own (LiesInside l.capacity) v dsn s.sets inside) (all-others (LiesInside l.capacity) v dsn s.sets inside)))

-- a data set in place of the one of its name holds its own beside the others
pub ledger-joined : (s : DeskState) (set : DataSet) (v : List ℕ) (l : LedgerView) → IsLedgerOf (pieces_on v set.extents ++ held_on (without_name s set.dsn) v) l → IsLedgerOf (held_on (with_set s set) v) l
ledger-joined s set v l is =
    let others = extents_of (without_set set.dsn s.sets) in
    let all : pieces_on v (extents_of (put_set set s.sets)) ≡ pieces_on v others ++ pieces_on v set.extents =
    ap (pieces_on v) (extents-push (without_set set.dsn s.sets) set) ∙ pieces-append v others set.extents in
    subst (λ (x : List Piece). IsLedgerOf x l) (sym all) (ledger-turn (pieces_on v set.extents) (pieces_on v others) l is)

-- The tracks of a volume.

sum-at : (capacity : ℕ) (held : List Piece) → NoTrackTwice held → All (LiesInside capacity) held → tracks_held (gaps_of capacity held) + tracks_held held ≡ capacity
sum-at zero [] once inside = refl
sum-at zero (p ∷ held) once inside =
    let here = All-head (LiesInside 0) p held inside in
    let some = here.0 in
    let within = here.1 in absurd (omega (arith, some, within))
sum-at (suc capacity) held once inside = gaps-sum (suc capacity) held (omega arith) once inside

-- the free ones and those that are held
pub ledger-sum : (held : List Piece) (l : LedgerView) → IsLedgerOf held l → tracks_held l.gaps + tracks_held held ≡ l.capacity
ledger-sum held l is = ap (λ (gaps : List Piece). tracks_held gaps + tracks_held held) is.gaps ∙ sum-at l.capacity held is.once is.inside
