-- What is granted where the lowest gap that holds the need is known, or how long the longest is.
use Rattle.std.proofs.Common.{◌≡◌, ◌≤◌, ◌<◌, ◌-◌, ◌*◌, ℕ, zero, suc, Bool, true, false, List, [], ◌∷◌, refl, sym, ap}
use Rattle.std.proofs.Common.{◌∙◌, arith}
use Rattle.std.specs.Prelude.{Option, None, Some, option_map, find, min, nat_le}
use Rattle.std.specs.List.{All}
use Rattle.std.proofs.lemmas.Bool.Decides.{nat_tests}
use Rattle.std.proofs.Math.Nat.{mul-le-mul_right, suc-mul}
use Rattle.std.proofs.lemmas.List.Elements.{All-head, All-tail, All-weaker}
use Rattle.track_ledger.specs.declared.piece.Piece.{Piece}
use Rattle.track_ledger.specs.GapRule.{grant_of, longest_first, taken_from}
use Rattle.track_ledger.proofs.GrantLemmas.{longest-inside}
use Rattle.track_ledger.proofs.LongestLemmas.{grant-parts, grant-whole}
use Rattle.track_ledger.proofs.NextLemmas.{find-nothing}

-- where a gap begins
abbrev pub start_of : Piece → ℕ
start_of gap = gap.start

-- the first gap in the list that holds the need begins there
-- what a gap that begins there gives
grant-start_at : (gaps : List Piece) (start need held allowed : ℕ) (found : Option Piece) → allowed ≡ min (16 - held) 5 → (allowed ≡ 0 → ⊥) → found ≡ find (λ (g : Piece). nat_le need g.length) gaps → Some start ≡ option_map start_of found
    → Some (record { start = start; length = need } ∷ []) ≡ grant_of gaps need held
grant-start_at gaps start need held allowed None is some here at = absurd cc
grant-start_at gaps start need held allowed (Some gap) is some here at =
    let same : start ≡ gap.start = cc in
    ap (λ n. Some (record { start = n; length = need } ∷ [])) same ∙ grant-whole gaps gap need held allowed is some here

pub grant-start : (gaps : List Piece) (start need held allowed : ℕ) → allowed ≡ min (16 - held) 5 → (allowed ≡ 0 → ⊥) → Some start ≡ option_map start_of (find (λ (g : Piece). nat_le need g.length) gaps)
    → Some (record { start = start; length = need } ∷ []) ≡ grant_of gaps need held
grant-start gaps start need held allowed is some at = grant-start_at gaps start need held allowed _ is some refl at

none-found_at : (found : Option Piece) → None ≡ option_map start_of found → None ≡ found
none-found_at None none = refl
none-found_at (Some gap) none = absurd cc

-- no gap does
pub none-found : (gaps : List Piece) (need : ℕ) → None ≡ option_map start_of (find (λ (g : Piece). nat_le need g.length) gaps) → None ≡ find (λ (g : Piece). nat_le need g.length) gaps
none-found gaps need none = none-found_at (find (λ (g : Piece). nat_le need g.length) gaps) none

-- so many pieces have too few tracks
taken-short_at : (most need pieces : ℕ) (gap : Piece) (gaps : List Piece) (b : Bool) → nat_le need gap.length ≡ b → gap.length ≤ most → suc pieces * most < need → taken_from gaps (need - gap.length) pieces ≡ None
    → taken_from (gap ∷ gaps) need (suc pieces) ≡ None
taken-short_at most need pieces gap gaps true is le short rest =
    let long : need ≤ gap.length = grind (arith, nat_tests) in
    let split = suc-mul pieces most in
    absurd (omega (arith, long, le, short, split))
taken-short_at most need pieces gap gaps false is le short rest = rw is (ap (λ (o : Option (List Piece)). option_map (λ (others : List Piece). gap ∷ others) o) rest)

taken-short : (most need pieces : ℕ) (gaps : List Piece) → All (λ (g : Piece). g.length ≤ most) gaps → pieces * most < need → taken_from gaps need pieces ≡ None
taken-short most need pieces [] all short = refl
taken-short most need zero (gap ∷ gaps) all short = refl
taken-short most need (suc pieces) (gap ∷ gaps) all short =
    let le = All-head (λ (g : Piece). g.length ≤ most) gap gaps all in
    let split = suc-mul pieces most in
    taken-short_at most need pieces gap gaps _ refl le short
    (taken-short most (need - gap.length) pieces gaps (All-tail (λ (g : Piece). g.length ≤ most) gap gaps all) (omega (arith, le, short, split)))

short-test : (need most n : ℕ) → n ≤ most → most < need → nat_le need n ≡ false
short-test need most n le short = grind (arith, nat_tests, le, short)

-- where five of the longest have too few tracks nothing is granted
pub short-granted : (cuts : List Piece) (most need held allowed : ℕ) → All (λ (g : Piece). g.length ≤ most) cuts → allowed ≡ min (16 - held) 5 → (allowed ≡ 0 → ⊥) → 5 * most < need
    → None ≡ grant_of cuts need held
short-granted cuts most need held allowed all allowed_is more short =
    let few : allowed * most ≤ 5 * most = mul-le-mul_right most (omega (arith, allowed_is)) in
    let each : All (λ (g : Piece). nat_le need g.length ≡ false) cuts =
    All-weaker (λ (g : Piece). g.length ≤ most) (λ (g : Piece). nat_le need g.length ≡ false) (λ g le. short-test need most g.length le (omega (arith, short))) cuts all in
    let same = longest-inside (λ (g : Piece). g.length ≤ most) cuts all in
    grant-parts cuts need held allowed None allowed_is more (sym (find-nothing (λ (g : Piece). nat_le need g.length) cuts each)) (sym (taken-short most need allowed (longest_first cuts) same (omega (arith, few, short))))
