-- Along pieces in the order of their first tracks lie the gaps that they leave.
use Rattle.std.proofs.Common.{◌≡◌, ◌≤◌, ◌<◌, ℕ, zero, suc, ◌+◌, ◌-◌, Bool, true, false, cond, List, [], ◌∷◌, ◌++◌}
use Rattle.std.proofs.Common.{length, get_or, refl, sym, ap, ◌∙◌, subst, append-nil, arith}
use Rattle.std.specs.Prelude.{◌&&◌, ◌==◌, max, min, not, nat_eq, nat_le, nat_lt, if◌then◌else◌}
use Rattle.std.specs.List.{sum_by}
use Rattle.std.specs.List.Sorted.{IsNonDecreasingBy, IsPermutation}
use Rattle.std.proofs.lemmas.Bool.Decides.{nat_tests}
use Rattle.std.proofs.lemmas.List.Sorted.{IsNonDecreasingBy-drop, sum_by-IsPermutation}
use Rattle.std.proofs.lemmas.List.Sums.{sum_by-cons}
use Rattle.desk_common.specs.Limits.{border}
use Rattle.track_ledger.specs.declared.piece.Piece.{Piece}
use Rattle.track_ledger.specs.Gaps.{gaps_within, holds, is_free, times_held}
use Rattle.track_ledger.proofs.LineLemmas.{IsLine, line-agree, line-down, piece_of, runs-of-line}
use Rattle.track_ledger.proofs.AlikeLemmas.{within-alike}
use Rattle.volume_gaps.specs.LongestGap.{longest, longest_gap}
use Rattle.volume_gaps.specs.Inner.Walking.{before, behind, most_before}

abbrev pub Ascends : List Piece → Type 0
Ascends pieces = IsNonDecreasingBy (λ (piece : Piece). piece.start) pieces

abbrev none : Piece
none = record { start = 0; length = 0 }

abbrev end_of : Piece → ℕ
end_of piece = piece.start + piece.length

-- which tracks a piece holds

in-piece : (piece : Piece) (t : ℕ) → piece.start ≤ t → t < end_of piece → holds piece t ≡ true
in-piece piece t a b =
    let low : nat_le piece.start t ≡ true = grind (arith, nat_tests) in
    let high : nat_lt t (piece.start + piece.length) ≡ true = grind (arith, nat_tests) in rw (low, high) refl

before-piece : (piece : Piece) (t : ℕ) → t < piece.start → holds piece t ≡ false
before-piece piece t a = let low : nat_le piece.start t ≡ false = grind (arith, nat_tests) in rw low refl

and-false : (a b : Bool) → b ≡ false → (a && b) ≡ false
and-false true b off = off
and-false false b off = refl

behind-piece : (piece : Piece) (t : ℕ) → end_of piece ≤ t → holds piece t ≡ false
behind-piece piece t a = let high : nat_lt t (piece.start + piece.length) ≡ false = grind (arith, nat_tests) in and-false _ _ high

empty-off_at : (piece : Piece) (t : ℕ) (b : Bool) → nat_lt t piece.start ≡ b → piece.length ≡ 0 → holds piece t ≡ false
empty-off_at piece t true is empty = before-piece piece t (grind (arith, nat_tests))
empty-off_at piece t false is empty = let over : piece.start ≤ t = grind (arith, nat_tests) in behind-piece piece t (omega (arith, over, empty))

empty-off : (piece : Piece) (t : ℕ) → piece.length ≡ 0 → holds piece t ≡ false
empty-off piece t empty = empty-off_at piece t _ refl empty

off-free : (piece : Piece) (pieces : List Piece) (t : ℕ) → holds piece t ≡ false → is_free (piece ∷ pieces) t ≡ is_free pieces t
off-free piece pieces t off = rw off refl

held : (piece : Piece) (pieces : List Piece) (t : ℕ) → piece.start ≤ t → t < end_of piece → is_free (piece ∷ pieces) t ≡ false
held piece pieces t a b = let on = in-piece piece t a b in rw on refl

free-before : (pieces : List Piece) (t : ℕ) → ((k : ℕ) → k < length pieces → t < (get_or pieces k none).start) → is_free pieces t ≡ true
free-before [] t later = refl
free-before (piece ∷ pieces) t later =
    off-free piece pieces t (before-piece piece t (later 0 (omega arith))) ∙ free-before pieces t (λ k less. later (suc k) (omega (arith, less)))

ascends-tail : (piece : Piece) (pieces : List Piece) → Ascends (piece ∷ pieces) → Ascends pieces
ascends-tail piece pieces up = IsNonDecreasingBy-drop (λ (piece : Piece). piece.start) 1 (piece ∷ pieces) up

free-low : (piece : Piece) (pieces : List Piece) (t : ℕ) → Ascends (piece ∷ pieces) → t < piece.start → is_free (piece ∷ pieces) t ≡ true
free-low piece pieces t up low =
    free-before (piece ∷ pieces) t (λ k less. let first : piece.start ≤ (get_or (piece ∷ pieces) k none).start = up 0 k none (omega arith) less in omega (arith, first, low))

-- the tracks from one on, before another, if there are some
abbrev run_of : ℕ → ℕ → List Piece
run_of from end = if nat_lt from end then piece_of from (end - from) ∷ [] else []

-- the gaps before each piece, and before the end
abbrev walk : ℕ → ℕ → List Piece → List Piece
walk at end [] = run_of at end
walk at end (piece ∷ pieces) =
    if piece.length == 0 then walk at end pieces
    else (if nat_le end piece.start then run_of at end
    else run_of at piece.start ++ walk (max at (end_of piece)) end pieces)

run-line_at : (p : ℕ → Bool) (at end : ℕ) (b : Bool) → nat_lt at end ≡ b → ((t : ℕ) → at ≤ t → t < end → p t ≡ true) → IsLine p at end (run_of at end)
run-line_at p at end true is free =
    let less : at < end = grind (arith, nat_tests) in
    rw is (
      record {
        behind = omega arith;
        some = omega (arith, less);
        within = omega (arith, less);
        before = λ t a c. absurd (omega arith);
        inside = λ t a c. free t a (omega (arith, less, c));
        ends = λ more. absurd (omega (arith, less, more));
      },
      λ t a c. absurd (omega (arith, less, a, c)),
    )
run-line_at p at end false is free = let over : end ≤ at = grind (arith, nat_tests) in rw is (λ t a c. absurd (omega (arith, over, a, c)))

run-line : (p : ℕ → Bool) (at end : ℕ) → ((t : ℕ) → at ≤ t → t < end → p t ≡ true) → IsLine p at end (run_of at end)
run-line p at end free = run-line_at p at end (nat_lt at end) refl free

-- the run before tracks that aren't free
run-before_at : (p : ℕ → Bool) (at start next end : ℕ) (gaps : List Piece) (b : Bool) → nat_lt at start ≡ b → start < end → start < next → at ≤ next
    → ((t : ℕ) → at ≤ t → t < start → p t ≡ true) → ((t : ℕ) → at ≤ t → start ≤ t → t < next → p t ≡ false) → IsLine p next end gaps
    → IsLine p at end (run_of at start ++ gaps)
run-before_at p at start next end gaps true is within some le free off line =
    let less : at < start = grind (arith, nat_tests) in
    let same : start ≡ at + (start - at) = omega (arith, less) in
    let down : IsLine p start end gaps = line-down p start end next gaps (omega (arith, some)) (λ t a c. off t (omega (arith, less, a)) a c) line in
    rw is (
      record {
        behind = omega arith;
        some = omega (arith, less);
        within = omega (arith, less, within);
        before = λ t a c. absurd (omega arith);
        inside = λ t a c. free t a (omega (arith, less, c));
        ends = λ more. subst (λ n. p n ≡ false) same (off start (omega (arith, less)) (omega arith) some);
      },
      subst (λ n. IsLine p n end gaps) same down,
    )
run-before_at p at start next end gaps false is within some le free off line =
    let over : start ≤ at = grind (arith, nat_tests) in
    rw is (line-down p at end next gaps le (λ t a c. off t a (omega (arith, over, a)) c) line)

below-max : (at end t : ℕ) → at ≤ t → t < max at end → t < end
below-max at end t a b = grind (arith, a, b)

walk-piece : (at end : ℕ) (piece : Piece) (pieces : List Piece) (b c : Bool) → nat_eq piece.length 0 ≡ b → nat_le end piece.start ≡ c → Ascends (piece ∷ pieces)
    → IsLine (is_free pieces) at end (walk at end pieces) → IsLine (is_free pieces) (max at (end_of piece)) end (walk (max at (end_of piece)) end pieces)
    → IsLine (is_free (piece ∷ pieces)) at end (walk at end (piece ∷ pieces))
walk-piece at end piece pieces true c is far up same next =
    let empty : piece.length ≡ 0 = grind (arith, nat_tests) in
    rw is (line-agree (is_free pieces) (is_free (piece ∷ pieces)) at end _ (λ t a d. off-free piece pieces t (empty-off piece t empty)) same)
walk-piece at end piece pieces false true is far up same next =
    let behind_end : end ≤ piece.start = grind (arith, nat_tests) in
    rw (is, far) (run-line (is_free (piece ∷ pieces)) at end (λ t a d. free-low piece pieces t up (omega (arith, behind_end, d))))
walk-piece at end piece pieces false false is far up same next =
    let some : 0 < piece.length = grind (arith, nat_tests) in
    let within : piece.start < end = grind (arith, nat_tests) in
    let le : at ≤ max at (end_of piece) = grind arith in
    let most : end_of piece ≤ max at (end_of piece) = grind arith in
    let agrees : IsLine (is_free (piece ∷ pieces)) (max at (end_of piece)) end (walk (max at (end_of piece)) end pieces) =
    line-agree (is_free pieces) (is_free (piece ∷ pieces)) (max at (end_of piece)) end _ (λ t a d. off-free piece pieces t (behind-piece piece t (omega (arith, most, a)))) next in
    rw (is, far) (
    run-before_at (is_free (piece ∷ pieces)) at piece.start (max at (end_of piece)) end _ _ refl within (omega (arith, some, most)) le
    (λ t a d. free-low piece pieces t up d) (λ t a d e. held piece pieces t d (below-max at (end_of piece) t a e)) agrees
    )

walk-line : (at end : ℕ) (pieces : List Piece) → Ascends pieces → IsLine (is_free pieces) at end (walk at end pieces)
walk-line at end [] up = run-line (is_free []) at end (λ t a b. refl)
walk-line at end (piece ∷ pieces) up =
    let tail = ascends-tail piece pieces up in
    walk-piece at end piece pieces _ _ refl refl up (walk-line at end pieces tail) (walk-line (max at (end_of piece)) end pieces tail)

-- how many tracks the longest of these gaps has

append-none : (gaps : List Piece) → gaps ++ [] ≡ gaps
append-none gaps = append-nil gaps

longest-run : (at end : ℕ) (gaps : List Piece) (b : Bool) → nat_lt at end ≡ b → longest (run_of at end ++ gaps) ≡ max (end - at) (longest gaps)
longest-run at end gaps true is = rw is refl
longest-run at end gaps false is = let over : end - at ≡ 0 = grind (arith, nat_tests) in rw (is, over) (grind arith)

past-step : (at end : ℕ) (piece : Piece) (b : Bool) → nat_eq piece.length 0 ≡ b → end ≤ at → before at end piece ≡ 0
past-step at end piece true is over = rw is refl
past-step at end piece false is over = rw is (grind (arith, over))

behind-after : (at : ℕ) (piece : Piece) (b : Bool) → nat_eq piece.length 0 ≡ b → at ≤ behind at piece
behind-after at piece true is = rw is (omega arith)
behind-after at piece false is = rw is (grind arith)

-- nothing lies behind the end
past : (at end : ℕ) (pieces : List Piece) → end ≤ at → most_before at end pieces ≡ 0
past at end [] over = omega (arith, over)
past at end (piece ∷ pieces) over =
    let here = past-step at end piece _ refl over in
    let later = behind-after at piece _ refl in
    let rest = past (behind at piece) end pieces (omega (arith, later, over)) in
    rw (here, rest) refl

walk-most_at : (at end : ℕ) (piece : Piece) (pieces : List Piece) (b c : Bool) → nat_eq piece.length 0 ≡ b → nat_le end piece.start ≡ c
    → longest (walk at end pieces) ≡ most_before at end pieces → longest (walk (max at (end_of piece)) end pieces) ≡ most_before (max at (end_of piece)) end pieces
    → longest (walk at end (piece ∷ pieces)) ≡ most_before at end (piece ∷ pieces)
walk-most_at at end piece pieces true c is far same next = rw is (same ∙ grind arith)
walk-most_at at end piece pieces false true is far same next =
    let over : end ≤ piece.start = grind (arith, nat_tests) in
    let cut : min piece.start end ≡ end = grind (arith, over) in
    let beyond : end ≤ max at (end_of piece) = grind (arith, over) in
    let rest = past (max at (end_of piece)) end pieces beyond in
    rw (is, far, cut, rest) (ap longest (sym (append-none (run_of at end))) ∙ longest-run at end [] _ refl)
walk-most_at at end piece pieces false false is far same next =
    let cut : min piece.start end ≡ piece.start = grind (arith, nat_tests) in
    rw (is, far, cut) (longest-run at piece.start _ _ refl ∙ ap (λ n. max (piece.start - at) n) next)

walk-most : (at end : ℕ) (pieces : List Piece) → longest (walk at end pieces) ≡ most_before at end pieces
walk-most at end [] = ap longest (sym (append-none (run_of at end))) ∙ (longest-run at end [] _ refl ∙ grind arith)
walk-most at end (piece ∷ pieces) = walk-most_at at end piece pieces _ _ refl refl (walk-most at end pieces) (walk-most (max at (end_of piece)) end pieces)

walked_at : (from end : ℕ) (pieces : List Piece) (b : Bool) → nat_le from end ≡ b → Ascends pieces → most_before from end pieces ≡ longest (gaps_within from end pieces)
walked_at from end pieces true is up =
    let le : from ≤ end = grind (arith, nat_tests) in
    sym (walk-most from end pieces) ∙ ap longest (sym (runs-of-line (is_free pieces) (end - from) from end (walk from end pieces) (omega (arith, le)) (walk-line from end pieces up)))
walked_at from end pieces false is up =
    let over : end ≤ from = grind (arith, nat_tests) in
    let count : end - from ≡ 0 = omega (arith, over) in
    past from end pieces over ∙ rw count refl

-- so the walk finds the longest gap
pub walked : (from end : ℕ) (pieces : List Piece) → Ascends pieces → most_before from end pieces ≡ longest (gaps_within from end pieces)
walked from end pieces up = walked_at from end pieces _ refl up

range-step : (at end : ℕ) (piece : Piece) (rest : ℕ) → rest ≤ end → (b : Bool) → nat_eq piece.length 0 ≡ b → max (before at end piece) rest ≤ end
range-step at end piece rest le true is = rw is (grind (arith, le))
range-step at end piece rest le false is = rw is (grind (arith, le))

-- it has no more tracks than there are before the end
pub most-range : (at end : ℕ) (pieces : List Piece) → most_before at end pieces ≤ end
most-range at end [] = omega arith
most-range at end (piece ∷ pieces) = range-step at end piece _ (most-range (behind at piece) end pieces) _ refl

-- where no piece is left, what was found is the most
pub ended : (from end at most result : ℕ) (pieces rest : List Piece) → length rest < 1 → max most (most_before at end rest) ≡ most_before from end pieces
    → result ≡ max (end - at) most → result ≡ most_before from end pieces
ended from end at most result pieces [] less along is = is ∙ (grind arith ∙ along)
ended from end at most result pieces (piece ∷ rest) less along is = absurd (omega (arith, less))

-- the order of the pieces is nothing to the gaps

times-sum : (t : ℕ) (pieces : List Piece) → times_held pieces t ≡ sum_by (λ (piece : Piece). cond (holds piece t) 1 0) pieces
times-sum t [] = refl
times-sum t (piece ∷ pieces) = omega (arith, times-sum t pieces, sum_by-cons (λ (piece : Piece). cond (holds piece t) 1 0) piece pieces)

times-moved : (a b : List Piece) → IsPermutation a b → (t : ℕ) → times_held b t ≡ times_held a t
times-moved a b moved t = times-sum t b ∙ (sum_by-IsPermutation (λ (piece : Piece). cond (holds piece t) 1 0) a b moved ∙ sym (times-sum t a))

pub moved-gap : (capacity : ℕ) (a b : List Piece) → IsPermutation a b → longest_gap capacity b ≡ longest_gap capacity a
moved-gap capacity a b moved =
    let low = within-alike 0 (min capacity border) a b (times-moved a b moved) in
    let high = within-alike border capacity a b (times-moved a b moved) in
    rw (low, high) refl
