-- A slate with one line more.
use Rattle.std.proofs.Common.{◌≡◌, ◌≤◌, ◌<◌, ◌+◌, ℕ, suc, Bool, true, false, List, [], ◌∷◌, ◌++◌, length, take, refl}
use Rattle.std.proofs.Common.{sym, ap, ◌∙◌, subst, arith}
use Rattle.std.specs.Prelude.{slice_set, if◌then◌else◌}
use Rattle.std.proofs.lemmas.Bool.{lt-ltb}
use Rattle.std.proofs.lemmas.List.{length-take, take_more_set, length-set}
use Rattle.acs_tree.specs.declared.kind.Kind.{Kind}
use Rattle.acs_tree.specs.declared.kind.Kind.TheVariants.{DataClas, StorClas, MgmtClas, StorGrp}
use Rattle.acs_tree.specs.declared.line.Line.{Line}
use Rattle.acs_tree.specs.declared.more.More.{More}
use Rattle.acs_tree.specs.Slates.{SlateLines, IsSlate, line, same_kind, count_of, more_of, with_line, with_more}
use Rattle.acs_tree.specs.Slates.{one_more}

one_kind : (kind : Kind) (a b c d : ℕ) → (if same_kind kind DataClas then suc a else a) + ((if same_kind kind StorClas then suc b else b) + ((if same_kind kind MgmtClas then suc c else c) + (if same_kind kind StorGrp then suc d else d))) ≡ suc (a + (b + (c + d)))
one_kind DataClas a b c d = omega arith
one_kind StorClas a b c d = omega arith
one_kind MgmtClas a b c d = omega arith
one_kind StorGrp a b c d = omega arith

-- each line is of one kind
counts : (lines : List Line) → count_of DataClas lines + (count_of StorClas lines + (count_of MgmtClas lines + count_of StorGrp lines)) ≡ length lines
counts [] = refl
counts (l ∷ lines) = one_kind l.kind (count_of DataClas lines) (count_of StorClas lines) (count_of MgmtClas lines) (count_of StorGrp lines) ∙ ap suc (counts lines)

-- while one kind has fewer than 64 lines there is room
pub room_left : (kind : Kind) (slate : SlateLines) → IsSlate slate → count_of kind slate.lines < 64 → length slate.lines < 256
room_left DataClas slate is less = omega (arith, less, counts slate.lines, is.few StorClas, is.few MgmtClas, is.few StorGrp)
room_left StorClas slate is less = omega (arith, less, counts slate.lines, is.few DataClas, is.few MgmtClas, is.few StorGrp)
room_left MgmtClas slate is less = omega (arith, less, counts slate.lines, is.few DataClas, is.few StorClas, is.few StorGrp)
room_left StorGrp slate is less = omega (arith, less, counts slate.lines, is.few DataClas, is.few StorClas, is.few MgmtClas)

push_if : (b c : Bool) (n m : ℕ) → m ≡ (if c then suc n else n) → (if b then suc m else m) ≡ (if c then suc (if b then suc n else n) else (if b then suc n else n))
push_if true true n m e = ap suc e
push_if true false n m e = ap suc e
push_if false true n m e = e
push_if false false n m e = e

pub count_push : (kind : Kind) (lines : List Line) (l : Line) → count_of kind (lines ++ l ∷ []) ≡ (if same_kind l.kind kind then suc (count_of kind lines) else count_of kind lines)
count_push kind [] l = refl
count_push kind (x ∷ lines) l = push_if (same_kind x.kind kind) (same_kind l.kind kind) (count_of kind lines) (count_of kind (lines ++ l ∷ [])) (count_push kind lines l)

from_same : (one other : Kind) → same_kind one other ≡ true → one ≡ other
from_same DataClas DataClas e = refl
from_same StorClas StorClas e = refl
from_same MgmtClas MgmtClas e = refl
from_same StorGrp StorGrp e = refl
from_same DataClas StorClas e = cc
from_same DataClas MgmtClas e = cc
from_same DataClas StorGrp e = cc
from_same StorClas DataClas e = cc
from_same StorClas MgmtClas e = cc
from_same StorClas StorGrp e = cc
from_same MgmtClas DataClas e = cc
from_same MgmtClas StorClas e = cc
from_same MgmtClas StorGrp e = cc
from_same StorGrp DataClas e = cc
from_same StorGrp StorClas e = cc
from_same StorGrp MgmtClas e = cc

-- the count of a kind, by whether it is the kind of the new line
by_same : (P : ℕ → Type 0) (b : Bool) (n : ℕ) → (b ≡ true → P (suc n)) → (b ≡ false → P n) → P (if b then suc n else n)
by_same P true n f g = f refl
by_same P false n f g = g refl

module _ (kind : Kind) (text : List ℕ) (slate : SlateLines) (is : IsSlate slate) (less : count_of kind slate.lines < 64) where
  less_of : (other : Kind) → same_kind kind other ≡ true → count_of other slate.lines < 64
  less_of other e = subst (λ k. count_of k slate.lines < 64) (from_same kind other e) less

  few_pushed : (other : Kind) → count_of other (slate.lines ++ line kind text ∷ []) ≤ 64
  few_pushed other =
      rw (count_push other slate.lines (line kind text))
      (by_same (λ n. n ≤ 64) (same_kind kind other) (count_of other slate.lines) (λ e. omega (arith, less_of other e)) (λ e. is.few other))

  full_pushed : (other : Kind) → 0 < more_of other slate.more → count_of other (slate.lines ++ line kind text ∷ []) ≡ 64
  full_pushed other some =
      rw (count_push other slate.lines (line kind text))
      (by_same (λ n. n ≡ 64) (same_kind kind other) (count_of other slate.lines) (λ e. absurd (omega (arith, less_of other e, is.full other some))) (λ e. is.full other some))

  pub slate_pushed : IsSlate (record { lines = slate.lines ++ line kind text ∷ []; more = slate.more })
  slate_pushed = record { few = few_pushed; full = full_pushed }

-- the fields of a slate with a line more in its room
pub room_pushed : (items : List Line) (count : ℕ) (more : More) (kind : Kind) (text : List ℕ) → length items ≡ 256 → count ≤ 256 → IsSlate (record { lines = take count items; more = more })
    → count_of kind (take count items) < 64 → count < length items
room_pushed items count more kind text long few is less =
    let room = room_left kind (record { lines = take count items; more = more }) is less in
    let all : length (take count items) ≡ count = omega (arith, length-take count items, long, few) in
    omega (arith, room, all, long)

pub fields_pushed : (items : List Line) (count : ℕ) (more : More) (kind : Kind) (text : List ℕ) → length items ≡ 256 → count ≤ 256 → IsSlate (record { lines = take count items; more = more })
    → count_of kind (take count items) < 64
    → (length (slice_set items count (line kind text)) ≡ 256) × (count + 1 ≤ 256) × IsSlate (record { lines = take (count + 1) (slice_set items count (line kind text)); more = more })
fields_pushed items count more kind text long few is less =
    let within = room_pushed items count more kind text long few is less in (
      length-set items count (line kind text) ∙ long,
      omega (arith, within, long),
      subst (λ lines. IsSlate (record { lines = lines; more = more })) (sym (take_more_set items count (line kind text) within)) (slate_pushed kind text (record { lines = take count items; more = more }) is less),
    )

pub view_pushed : (items : List Line) (count : ℕ) (more : More) (kind : Kind) (text : List ℕ) (slate : SlateLines) → length items ≡ 256 → count ≤ 256 → IsSlate (record { lines = take count items; more = more })
    → count_of kind (take count items) < 64 → slate ≡ record { lines = take count items; more = more }
    → let new : SlateLines = record { lines = take (count + 1) (slice_set items count (line kind text)); more = more } in new ≡ with_line kind text slate
view_pushed items count more kind text slate long few is less e =
    let within = room_pushed items count more kind text long few is less in
    let kept : SlateLines = record { lines = take count items ++ line kind text ∷ []; more = more } in
    let counted : SlateLines = record { lines = take count items; more = with_more kind (one_more (more_of kind more)) more } in
    let is_new : SlateLines → Type 0 = λ s. kept ≡ with_line kind text s in
    rw (take_more_set items count (line kind text) within)
    (subst is_new (sym e) (ap (λ b. if b then kept else counted) (sym (lt-ltb (count_of kind (take count items)) 64 less))))
