-- How often the pieces that are held, and the gaps between them, hold a track.
use Rattle.std.proofs.Common.{◌≡◌, ◌≤◌, ◌<◌, ℕ, ◌+◌, Bool, true, false, List, [], ◌∷◌, ◌++◌, refl, sym, ap, arith}
use Rattle.std.specs.Prelude.{nat_eq, nat_lt}
use Rattle.std.specs.List.{All}
use Rattle.std.proofs.lemmas.Bool.Decides.{nat_tests}
use Rattle.std.proofs.lemmas.List.Elements.{All-head, All-tail}
use Rattle.track_ledger.specs.declared.piece.Piece.{Piece}
use Rattle.track_ledger.specs.Extents.{LieInGaps, LiesInside, NoTrackTwice}
use Rattle.track_ledger.specs.Gaps.{gaps_of, is_free, times_held}
use Rattle.track_ledger.proofs.GrantLemmas.{free-times, line-none, once_in, once-in-high, once-in-low, one_if}
use Rattle.track_ledger.proofs.HolderLemmas.{gaps-inside, gaps-line, times-append}
use Rattle.track_ledger.proofs.LineLemmas.{IsLine}

once-in-here : (piece : Piece) (t : ℕ) → piece.start ≤ t → t < piece.start + piece.length → once_in piece t ≡ 1
once-in-here piece t low high = grind (arith, nat_tests)

-- a gap of a line holds each track that is free, and none of the others
line-times : (p : ℕ → Bool) (from end : ℕ) (gaps : List Piece) (t : ℕ) → IsLine p from end gaps → from ≤ t → t < end → times_held gaps t ≡ one_if (p t)
line-times p from end [] t line low high = sym (ap one_if (line t low high))
line-times p from end (gap ∷ gaps) t line low high =
    let rest = line-times p (gap.start + gap.length) end gaps t line.1 in
    let none = line-none p (gap.start + gap.length) end gaps t line.1 in
    let before : t < gap.start → one_if (p t) ≡ 0 = λ less. ap one_if (line.0.before t low less) in
    let inside : gap.start ≤ t → t < gap.start + gap.length → one_if (p t) ≡ 1 = λ a b. ap one_if (line.0.inside t a b) in
    let out_low = once-in-low gap t in
    let out_high = once-in-high gap t in
    let here = once-in-here gap t in
    grind (arith, rest, none, before, inside, out_low, out_high, here)

-- pieces inside a volume hold no track behind it
pub times-behind : (capacity : ℕ) (pieces : List Piece) (t : ℕ) → All (LiesInside capacity) pieces → capacity ≤ t → times_held pieces t ≡ 0
times-behind capacity [] t inside le = refl
times-behind capacity (piece ∷ pieces) t inside le =
    let head = All-head (LiesInside capacity) piece pieces inside in
    let within = head.1 in
    let here = once-in-high piece t (omega arith) in
    let rest = times-behind capacity pieces t (All-tail (LiesInside capacity) piece pieces inside) le in
    omega (arith, here, rest)

one-less : (n : ℕ) → n ≤ 1 → one_if (nat_eq n 0) + n ≡ 1
one-less n le = grind (arith, nat_tests)

-- a track of the volume is either held or in a gap
pub gaps-times : (capacity : ℕ) (held : List Piece) (t : ℕ) → NoTrackTwice held → t < capacity → times_held (gaps_of capacity held) t + times_held held t ≡ 1
gaps-times capacity held t once less =
    let line = line-times (is_free held) 0 capacity (gaps_of capacity held) t (gaps-line capacity held) (omega arith) less in
    let same : one_if (is_free held t) ≡ one_if (nat_eq (times_held held t) 0) = ap one_if (free-times held t) in
    omega (arith, line, same, one-less (times_held held t) (once t))

pub gaps-behind : (capacity : ℕ) (held : List Piece) (t : ℕ) → capacity ≤ t → times_held (gaps_of capacity held) t ≡ 0
gaps-behind capacity held t le = times-behind capacity (gaps_of capacity held) t (gaps-inside capacity held) le

gaps-once_at : (capacity : ℕ) (held : List Piece) (t : ℕ) (b : Bool) → nat_lt t capacity ≡ b → NoTrackTwice held → times_held (gaps_of capacity held) t ≤ 1
gaps-once_at capacity held t true is once = let less : t < capacity = grind (arith, nat_tests) in omega (arith, gaps-times capacity held t once less)
gaps-once_at capacity held t false is once = let le : capacity ≤ t = grind (arith, nat_tests) in omega (arith, gaps-behind capacity held t le)

-- no track is in two gaps
pub gaps-apart : (capacity : ℕ) (held : List Piece) → NoTrackTwice held → NoTrackTwice (gaps_of capacity held)
gaps-apart capacity held once t = gaps-once_at capacity held t _ refl once

runs-held_at : (capacity : ℕ) (held : List Piece) (t : ℕ) (b : Bool) → nat_lt t capacity ≡ b → NoTrackTwice held → All (LiesInside capacity) held → times_held (gaps_of capacity (gaps_of capacity held)) t ≡ times_held held t
runs-held_at capacity held t true is once inside =
    let less : t < capacity = grind (arith, nat_tests) in
    omega (arith, gaps-times capacity held t once less, gaps-times capacity (gaps_of capacity held) t (gaps-apart capacity held once) less)
runs-held_at capacity held t false is once inside =
    let le : capacity ≤ t = grind (arith, nat_tests) in
    omega (arith, gaps-behind capacity (gaps_of capacity held) t le, times-behind capacity held t inside le)

-- what stands between the gaps is what is held
pub runs-held : (capacity : ℕ) (held : List Piece) (t : ℕ) → NoTrackTwice held → All (LiesInside capacity) held → times_held (gaps_of capacity (gaps_of capacity held)) t ≡ times_held held t
runs-held capacity held t once inside = runs-held_at capacity held t _ refl once inside

into-gaps_at : (capacity : ℕ) (held pieces : List Piece) (t : ℕ) (b : Bool) → nat_lt t capacity ≡ b → NoTrackTwice held → All (LiesInside capacity) pieces → NoTrackTwice (held ++ pieces)
    → times_held pieces t ≤ times_held (gaps_of capacity held) t
into-gaps_at capacity held pieces t true is once inside both =
    let less : t < capacity = grind (arith, nat_tests) in
    omega (arith, gaps-times capacity held t once less, both t, times-append held pieces t)
into-gaps_at capacity held pieces t false is once inside both =
    let le : capacity ≤ t = grind (arith, nat_tests) in
    omega (arith, times-behind capacity pieces t inside le)

-- pieces beside those that are held lie in the gaps
pub into-gaps : (capacity : ℕ) (held pieces : List Piece) → NoTrackTwice held → All (LiesInside capacity) pieces → NoTrackTwice (held ++ pieces) → LieInGaps (gaps_of capacity held) pieces
into-gaps capacity held pieces once inside both t = into-gaps_at capacity held pieces t _ refl once inside both

from-gaps_at : (capacity : ℕ) (held pieces : List Piece) (t : ℕ) (b : Bool) → nat_lt t capacity ≡ b → NoTrackTwice held → times_held pieces t ≤ times_held (gaps_of capacity held) t
    → times_held held t + times_held pieces t ≤ 1
from-gaps_at capacity held pieces t true is once in_gaps =
    let less : t < capacity = grind (arith, nat_tests) in omega (arith, gaps-times capacity held t once less, in_gaps)
from-gaps_at capacity held pieces t false is once in_gaps =
    let le : capacity ≤ t = grind (arith, nat_tests) in omega (arith, gaps-behind capacity held t le, in_gaps, once t)

-- and pieces in the gaps are beside them
pub from-gaps : (capacity : ℕ) (held pieces : List Piece) → NoTrackTwice held → LieInGaps (gaps_of capacity held) pieces → NoTrackTwice (held ++ pieces)
from-gaps capacity held pieces once in_gaps t = omega (arith, from-gaps_at capacity held pieces t _ refl once (in_gaps t), times-append held pieces t)

changed_at : (capacity : ℕ) (held pieces : List Piece) (t : ℕ) (b : Bool) → nat_lt t capacity ≡ b → NoTrackTwice held → NoTrackTwice (held ++ pieces) → All (LiesInside capacity) (held ++ pieces)
    → times_held (gaps_of capacity (held ++ pieces)) t + times_held pieces t ≡ times_held (gaps_of capacity held) t
changed_at capacity held pieces t true is once both inside =
    let less : t < capacity = grind (arith, nat_tests) in
    omega (arith, gaps-times capacity held t once less, gaps-times capacity (held ++ pieces) t both less, times-append held pieces t)
changed_at capacity held pieces t false is once both inside =
    let le : capacity ≤ t = grind (arith, nat_tests) in
    omega (arith, gaps-behind capacity held t le, gaps-behind capacity (held ++ pieces) t le, times-behind capacity (held ++ pieces) t inside le, times-append held pieces t)

-- what pieces take from the gaps
pub gaps-changed : (capacity : ℕ) (held pieces : List Piece) (t : ℕ) → NoTrackTwice held → NoTrackTwice (held ++ pieces) → All (LiesInside capacity) (held ++ pieces)
    → times_held (gaps_of capacity (held ++ pieces)) t + times_held pieces t ≡ times_held (gaps_of capacity held) t
gaps-changed capacity held pieces t once both inside = changed_at capacity held pieces t _ refl once both inside
