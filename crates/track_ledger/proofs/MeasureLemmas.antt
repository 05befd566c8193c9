-- Gaps in a part, in whole units: how long the longest is, and which is the lowest that passes a test.
use Rattle.std.proofs.Common.{◌≡◌, ◌≤◌, ◌<◌, ◌+◌, ℕ, Bool, true, false, List, [], ◌∷◌, ◌++◌, refl, sym, ap, ◌∙◌, arith}
use Rattle.std.specs.Prelude.{Option, None, Some, find, map, max, nat_lt}
use Rattle.std.specs.Option.{option_or}
use Rattle.std.specs.List.{All}
use Rattle.std.proofs.lemmas.Bool.Decides.{nat_tests}
use Rattle.std.proofs.lemmas.List.{map-append}
use Rattle.std.proofs.lemmas.List.Elements.{All-cons, All-nil, All-head, All-tail, All-weaker}
use Rattle.std.proofs.lemmas.List.Folds.{find-append}
use Rattle.track_ledger.specs.declared.measure.Longest.{Longest}
use Rattle.track_ledger.specs.declared.measure.Measure.{Measure}
use Rattle.track_ledger.specs.declared.measure.Measure.TheVariants.{Tracks, Cylinders, Managed}
use Rattle.track_ledger.specs.declared.piece.Piece.{Piece}
use Rattle.track_ledger.specs.Gaps.{clip, unit_gaps, whole_units}
use Rattle.track_ledger.specs.GapRule.{comes_first}
use Rattle.track_ledger.specs.Inner.GapLists.{StandApart}
use Rattle.track_ledger.specs.Inner.Measures.{AreLongest, cuts_by, end_by, from_by, length_at, longest_among}
use Rattle.track_ledger.specs.Inner.Measures.{longest_by, unit_by, units_by}
use Rattle.track_ledger.proofs.LongestLemmas.{unit-append}
use Rattle.track_ledger.proofs.NextLemmas.{find-nothing}
use Rattle.track_ledger.proofs.UnitLemmas.{units-high, units-low}

unit-some : (measure : Measure) → 0 < unit_by measure
unit-some Tracks = omega arith
unit-some Cylinders = omega arith
unit-some Managed = omega arith

pub longest-append : (measure : Measure) (xs ys : List Piece) → longest_by measure (xs ++ ys) ≡ max (longest_by measure xs) (longest_by measure ys)
longest-append measure [] ys = omega arith
longest-append measure (x ∷ xs) ys = omega (arith, longest-append measure xs ys)

-- how long the longest of a gap and those on both sides of it are
pub node-longest : (l : List Piece) (g : Piece) (r : List Piece) (one two own both all : Longest) → AreLongest l one → AreLongest r two → ((m : Measure) → length_at own m ≡ (units_by m g).length)
    → ((m : Measure) → length_at both m ≡ max (length_at one m) (length_at two m)) → ((m : Measure) → length_at all m ≡ max (length_at own m) (length_at both m)) → AreLongest (l ++ (g ∷ r)) all
node-longest l g r one two own both all ones twos owns boths alls m =
    let a = ones m in
    let b = twos m in
    let c = owns m in
    let d = boths m in
    let e = alls m in
    omega (arith, longest-append m l (g ∷ r), a, b, c, d, e)

-- the whole units of the gaps on both sides of one, and of it
pub cuts-node : (measure : Measure) (l : List Piece) (g : Piece) (r : List Piece) → cuts_by measure (l ++ (g ∷ r)) ≡ cuts_by measure l ++ (cuts_by measure (g ∷ []) ++ cuts_by measure r)
cuts-node measure l g r =
    let c : Piece → Piece = clip (from_by measure) (end_by measure) in
    let n = unit_by measure in
    ap (unit_gaps n) (map-append c l (g ∷ r)) ∙ unit-append n (map c l) (c g ∷ map c r) ∙ ap (λ (x : List Piece). unit_gaps n (map c l) ++ x) (unit-append n (c g ∷ []) (map c r))

abbrev pub IsCut : ℕ → ℕ → Piece → Type 0
IsCut from most cut = (from ≤ cut.start) × (cut.length ≤ most)

cuts-within_at : (measure : Measure) (from most : ℕ) (gap : Piece) (gaps : List Piece) (b : Bool) → nat_lt 0 (units_by measure gap).length ≡ b → from ≤ gap.start → (units_by measure gap).length ≤ most → All (IsCut from most) (cuts_by measure gaps)
    → All (IsCut from most) (cuts_by measure (gap ∷ gaps))
cuts-within_at measure from most gap gaps true is behind short rest =
    let low = units-low (unit_by measure) (clip (from_by measure) (end_by measure) gap) (unit-some measure) in
    let here : IsCut from most (units_by measure gap) = (omega (arith, low, behind), short) in
    rw is (All-cons (IsCut from most) (units_by measure gap) (cuts_by measure gaps) here rest)
cuts-within_at measure from most gap gaps false is behind short rest = rw is rest

-- they begin no lower than the gaps and are no longer than the longest
cuts-within : (measure : Measure) (from most : ℕ) (gaps : List Piece) → All (λ (gap : Piece). from ≤ gap.start) gaps → longest_by measure gaps ≤ most → All (IsCut from most) (cuts_by measure gaps)
cuts-within measure from most [] all short = All-nil (IsCut from most)
cuts-within measure from most (gap ∷ gaps) all short =
    cuts-within_at measure from most gap gaps _ refl (All-head (λ (g : Piece). from ≤ g.start) gap gaps all) (omega (arith, short))
    (cuts-within measure from most gaps (All-tail (λ (g : Piece). from ≤ g.start) gap gaps all) (omega (arith, short)))

all-behind-none : (gaps : List Piece) → All (λ (gap : Piece). 0 ≤ gap.start) gaps
all-behind-none [] = All-nil (λ (gap : Piece). 0 ≤ gap.start)
all-behind-none (gap ∷ gaps) = All-cons (λ (g : Piece). 0 ≤ g.start) gap gaps (omega arith) (all-behind-none gaps)

pub cuts-shorter : (measure : Measure) (gaps : List Piece) (most : ℕ) → most ≡ longest_by measure gaps → All (λ (cut : Piece). cut.length ≤ most) (cuts_by measure gaps)
cuts-shorter measure gaps most is =
    All-weaker (IsCut 0 most) (λ (cut : Piece). cut.length ≤ most) (λ cut h. h.1) (cuts_by measure gaps) (cuts-within measure 0 most gaps (all-behind-none gaps) (omega (arith, is)))

-- where the longest is too short none holds the need
pub holding-none : (measure : Measure) (need : ℕ) (gaps : List Piece) (p : Piece → Bool) → ((cut : Piece) → cut.length < need → p cut ≡ false) → longest_by measure gaps < need → None ≡ find p (cuts_by measure gaps)
holding-none measure need gaps p off short =
    sym (find-nothing p (cuts_by measure gaps)
    (All-weaker (λ (cut : Piece). cut.length ≤ longest_by measure gaps) (λ (cut : Piece). p cut ≡ false) (λ cut le. off cut (omega (arith, le, short))) (cuts_by measure gaps) (cuts-shorter measure gaps (longest_by measure gaps) refl)))

-- the lowest that passes stands on the left, in the middle or on the right
abbrev pub lowest_of : (Piece → Bool) → Measure → List Piece → Option Piece
lowest_of p measure gaps = find p (cuts_by measure gaps)

lowest-node : (p : Piece → Bool) (measure : Measure) (l : List Piece) (g : Piece) (r : List Piece)
    → lowest_of p measure (l ++ (g ∷ r)) ≡ option_or (lowest_of p measure l) (option_or (lowest_of p measure (g ∷ [])) (lowest_of p measure r))
lowest-node p measure l g r =
    ap (find p) (cuts-node measure l g r) ∙ find-append p (cuts_by measure l) (cuts_by measure (g ∷ []) ++ cuts_by measure r)
    ∙ ap (option_or (lowest_of p measure l)) (find-append p (cuts_by measure (g ∷ [])) (cuts_by measure r))

pub lowest-left : (p : Piece → Bool) (measure : Measure) (l : List Piece) (g : Piece) (r : List Piece) (found : Piece) → Some found ≡ lowest_of p measure l → Some found ≡ lowest_of p measure (l ++ (g ∷ r))
lowest-left p measure l g r found here =
    ap (λ (o : Option Piece). option_or o (option_or (lowest_of p measure (g ∷ [])) (lowest_of p measure r))) here ∙ sym (lowest-node p measure l g r)

pub lowest-own : (p : Piece → Bool) (measure : Measure) (l : List Piece) (g : Piece) (r : List Piece) (found : Piece) → None ≡ lowest_of p measure l → Some found ≡ lowest_of p measure (g ∷ [])
    → Some found ≡ lowest_of p measure (l ++ (g ∷ r))
lowest-own p measure l g r found none here =
    ap (λ (o : Option Piece). option_or o (lowest_of p measure r)) here ∙ ap (λ (o : Option Piece). option_or o (option_or (lowest_of p measure (g ∷ [])) (lowest_of p measure r))) none
    ∙ sym (lowest-node p measure l g r)

pub lowest-right : (p : Piece → Bool) (measure : Measure) (l : List Piece) (g : Piece) (r : List Piece) (found : Option Piece) → None ≡ lowest_of p measure l → None ≡ lowest_of p measure (g ∷ [])
    → found ≡ lowest_of p measure r → found ≡ lowest_of p measure (l ++ (g ∷ r))
lowest-right p measure l g r found none own here =
    here ∙ ap (λ (o : Option Piece). option_or o (lowest_of p measure r)) own ∙ ap (λ (o : Option Piece). option_or o (option_or (lowest_of p measure (g ∷ [])) (lowest_of p measure r))) none
    ∙ sym (lowest-node p measure l g r)

-- gaps behind a gap that stands behind another
pub all-behind : (measure : Measure) (gaps : List Piece) (best last : Piece) → best.length ≡ longest_by measure gaps → All (λ (gap : Piece). best.start ≤ gap.start) gaps → comes_first best last ≡ false
    → All (λ (cut : Piece). comes_first cut last ≡ false) (cuts_by measure gaps)
all-behind measure gaps best last long from behind =
    All-weaker (IsCut best.start best.length) (λ (cut : Piece). comes_first cut last ≡ false)
    (λ cut h. let low = h.0 in let short = h.1 in grind (arith, nat_tests, behind, low, short))
    (cuts_by measure gaps) (cuts-within measure best.start best.length gaps from (omega (arith, long)))

among-append : (p : Piece → Bool) (xs ys : List Piece) → longest_among p (xs ++ ys) ≡ max (longest_among p xs) (longest_among p ys)
among-append p [] ys = omega arith
among-append p (x ∷ xs) ys = let rest = among-append p xs ys in omega (arith, rest)

-- the longest that passes stands on the left, in the middle or on the right
pub among-node : (p : Piece → Bool) (measure : Measure) (l : List Piece) (g : Piece) (r : List Piece) (left own right result : ℕ) → left ≡ longest_among p (cuts_by measure l)
    → own ≡ longest_among p (cuts_by measure (g ∷ [])) → right ≡ longest_among p (cuts_by measure r) → result ≡ max (max left right) own → result ≡ longest_among p (cuts_by measure (l ++ (g ∷ r)))
among-node p measure l g r left own right result left_is own_is right_is is =
    let whole : longest_among p (cuts_by measure (l ++ (g ∷ r))) ≡ longest_among p (cuts_by measure l ++ (cuts_by measure (g ∷ []) ++ cuts_by measure r)) = ap (longest_among p) (cuts-node measure l g r) in
    let one = among-append p (cuts_by measure l) (cuts_by measure (g ∷ []) ++ cuts_by measure r) in
    let two = among-append p (cuts_by measure (g ∷ [])) (cuts_by measure r) in
    omega (arith, whole, one, two, left_is, own_is, right_is, is)

among-all_at : (p : Piece → Bool) (measure : Measure) (gap : Piece) (gaps : List Piece) (b : Bool) → nat_lt 0 (units_by measure gap).length ≡ b → All (λ (cut : Piece). p cut ≡ true) (cuts_by measure (gap ∷ gaps))
    → (All (λ (cut : Piece). p cut ≡ true) (cuts_by measure gaps) → longest_among p (cuts_by measure gaps) ≡ longest_by measure gaps) → longest_among p (cuts_by measure (gap ∷ gaps)) ≡ longest_by measure (gap ∷ gaps)
among-all_at p measure gap gaps true is all rest =
    let P : Piece → Type 0 = λ (cut : Piece). p cut ≡ true in
    let now : All P (units_by measure gap ∷ cuts_by measure gaps) = rw is at all in
    let own = All-head P (units_by measure gap) (cuts_by measure gaps) now in
    rw (is, own) (ap (max (units_by measure gap).length) (rest (All-tail P (units_by measure gap) (cuts_by measure gaps) now)))
among-all_at p measure gap gaps false is all rest =
    let now : All (λ (cut : Piece). p cut ≡ true) (cuts_by measure gaps) = rw is at all in
    let none : (units_by measure gap).length ≡ 0 = grind (arith, nat_tests, is) in
    let same = rest now in
    rw is (omega (arith, none, same))

-- where all pass
pub among-all : (p : Piece → Bool) (measure : Measure) (gaps : List Piece) → All (λ (cut : Piece). p cut ≡ true) (cuts_by measure gaps) → longest_among p (cuts_by measure gaps) ≡ longest_by measure gaps
among-all p measure [] all = refl
among-all p measure (gap ∷ gaps) all = among-all_at p measure gap gaps _ refl all (among-all p measure gaps)

cuts-some_at : (measure : Measure) (gap : Piece) (gaps : List Piece) (b : Bool) → nat_lt 0 (units_by measure gap).length ≡ b → All (λ (cut : Piece). 0 < cut.length) (cuts_by measure gaps)
    → All (λ (cut : Piece). 0 < cut.length) (cuts_by measure (gap ∷ gaps))
cuts-some_at measure gap gaps true is rest = rw is (All-cons (λ (cut : Piece). 0 < cut.length) (units_by measure gap) (cuts_by measure gaps) (grind (arith, nat_tests, is)) rest)
cuts-some_at measure gap gaps false is rest = rw is rest

-- none is empty
pub cuts-some : (measure : Measure) (gaps : List Piece) → All (λ (cut : Piece). 0 < cut.length) (cuts_by measure gaps)
cuts-some measure [] = All-nil (λ (cut : Piece). 0 < cut.length)
cuts-some measure (gap ∷ gaps) = cuts-some_at measure gap gaps _ refl (cuts-some measure gaps)

-- they end where the gap does, or before
cut-end : (measure : Measure) (gap : Piece) → 0 < (units_by measure gap).length → (units_by measure gap).start + (units_by measure gap).length ≤ gap.start + gap.length
cut-end measure gap some =
    let n = unit_by measure in
    let part = clip (from_by measure) (end_by measure) gap in
    let low : part.start ≤ (whole_units n part).start = units-low n part (unit-some measure) in
    let high : (whole_units n part).start + (whole_units n part).length ≤ part.start + part.length = units-high n part some in
    omega (arith, low, high, some)

cuts-apart_at : (measure : Measure) (gap : Piece) (gaps : List Piece) (b : Bool) → nat_lt 0 (units_by measure gap).length ≡ b → All (λ (o : Piece). gap.start + gap.length ≤ o.start) gaps → StandApart (cuts_by measure gaps)
    → StandApart (cuts_by measure (gap ∷ gaps))
cuts-apart_at measure gap gaps true is behind rest =
    let cut = units_by measure gap in
    let low = cut-end measure gap (grind (arith, nat_tests, is)) in
    let all = cuts-within measure (gap.start + gap.length) (longest_by measure gaps) gaps behind (omega arith) in
    rw is (All-weaker (IsCut (gap.start + gap.length) (longest_by measure gaps)) (λ (o : Piece). cut.start + cut.length ≤ o.start) (λ o h. omega (arith, low, h.0)) (cuts_by measure gaps) all, rest)
cuts-apart_at measure gap gaps false is behind rest = rw is rest

-- they stand apart as the gaps do
pub cuts-apart : (measure : Measure) (gaps : List Piece) → StandApart gaps → StandApart (cuts_by measure gaps)
cuts-apart measure [] apart = tt
cuts-apart measure (gap ∷ gaps) apart = cuts-apart_at measure gap gaps _ refl apart.0 (cuts-apart measure gaps apart.1)
