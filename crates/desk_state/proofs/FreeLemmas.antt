-- Whether a track is freed, extent by extent.
use Rattle.std.proofs.Common.{◌≡◌, ◌≤◌, ◌<◌, ℕ, ◌+◌, ◌-◌, zero, suc, Bool, true, false, cond, List, [], ◌∷◌, length}
use Rattle.std.proofs.Common.{drop, get_or, refl, sym, ap, subst, ◌∙◌, arith}
use Rattle.std.specs.Prelude.{nat_lt}
use Rattle.std.specs.Cmp.{both_ways}
use Rattle.std.proofs.lemmas.Bool.Decides.{nat_tests}
use Rattle.std.proofs.lemmas.List.Sums.{sum_by-cons}
use Rattle.sms_construct.specs.declared.extent.Extent.{Extent}
use Rattle.desk_law.specs.Extents.{front_tracks, length_kept}
use Rattle.desk_law.proofs.FrontLemmas.{cut_to}
use Rattle.desk_state.specs.Inner.Sums.{tracks_in}
use Rattle.desk_state.proofs.ExtentLemmas.{front-tracks}

-- a track is freed where so many are kept
abbrev frees : ℕ → List Extent → Bool
frees keep es = nat_lt (tracks_in (front_tracks keep es)) (tracks_in es)

none-kept : (es : List Extent) → front_tracks 0 es ≡ []
none-kept [] = refl
none-kept (e ∷ es) = refl

shifted : (n a b : ℕ) → nat_lt (n + a) (n + b) ≡ nat_lt a b
shifted n a b = both_ways (nat_lt (n + a) (n + b)) (nat_lt a b) (λ h. grind (arith, nat_tests, h)) (λ h. grind (arith, nat_tests, h))

kept-most : (keep : ℕ) (e : Extent) → length_kept keep e ≤ e.length
kept-most keep e = grind arith

frees-here-at : (keep : ℕ) (e : Extent) (es : List Extent) (kept : ℕ) (b : Bool) → nat_lt 0 keep ≡ b → kept ≡ cond b (length_kept keep e) 0 → kept < e.length → frees keep (e ∷ es) ≡ true
frees-here-at keep e es kept true some is less =
    let one = sum_by-cons (λ (x : Extent). x.length) (cut_to keep e) (front_tracks (keep - e.length) es) in
    let all = sum_by-cons (λ (x : Extent). x.length) e es in
    let behind = front-tracks (keep - e.length) es in
    let more : tracks_in (cut_to keep e ∷ front_tracks (keep - e.length) es) < tracks_in (e ∷ es) = omega (arith, one, all, behind, is, less) in
    rw some (grind (arith, nat_tests, more))
frees-here-at keep e es kept false some is less =
    let all = sum_by-cons (λ (x : Extent). x.length) e es in
    let more : 0 < tracks_in (e ∷ es) = omega (arith, all, less) in
    rw some (grind (arith, nat_tests, more))

-- a track of the first extent is freed
pub frees-here : (keep : ℕ) (e : Extent) (es : List Extent) (kept : ℕ) → kept ≡ cond (nat_lt 0 keep) (length_kept keep e) 0 → kept < e.length → frees keep (e ∷ es) ≡ true
frees-here keep e es kept is less = frees-here-at keep e es kept _ refl is less

frees-behind-at : (keep : ℕ) (e : Extent) (es : List Extent) (kept : ℕ) (b : Bool) → nat_lt 0 keep ≡ b → kept ≡ cond b (length_kept keep e) 0 → e.length ≤ kept → frees keep (e ∷ es) ≡ frees (keep - e.length) es
frees-behind-at keep e es kept true some is whole =
    let one = sum_by-cons (λ (x : Extent). x.length) (cut_to keep e) (front_tracks (keep - e.length) es) in
    let all = sum_by-cons (λ (x : Extent). x.length) e es in
    let front : tracks_in (cut_to keep e ∷ front_tracks (keep - e.length) es) ≡ e.length + tracks_in (front_tracks (keep - e.length) es) = omega (arith, one, is, whole, kept-most keep e) in
    rw (some, front, all) (shifted e.length (tracks_in (front_tracks (keep - e.length) es)) (tracks_in es))
frees-behind-at keep e es kept false some is whole =
    let all = sum_by-cons (λ (x : Extent). x.length) e es in
    let nothing : keep ≡ 0 = grind (arith, nat_tests, some) in
    let left : keep - e.length ≡ 0 = omega (arith, nothing) in
    let empty : e.length ≡ 0 = omega (arith, is, whole) in
    let same : tracks_in (e ∷ es) ≡ tracks_in es = omega (arith, all, empty) in
    rw (some, left, none-kept es, same) refl

-- none of the first is freed, so it is as with the others
pub frees-behind : (keep : ℕ) (e : Extent) (es : List Extent) (kept : ℕ) → kept ≡ cond (nat_lt 0 keep) (length_kept keep e) 0 → e.length ≤ kept → frees keep (e ∷ es) ≡ frees (keep - e.length) es
frees-behind keep e es kept is whole = frees-behind-at keep e es kept _ refl is whole

drop-cons : (es : List Extent) (i : ℕ) (e : Extent) → i < length es → e ≡ get_or es i e → drop i es ≡ e ∷ drop (suc i) es
drop-cons [] i e less is = absurd (omega (arith, less))
drop-cons (x ∷ es) zero e less is = ap (λ (y : Extent). y ∷ es) (sym is)
drop-cons (x ∷ es) (suc i) e less is = drop-cons es i e (omega (arith, less)) is

-- the extent at a place, and those behind it
pub drop-one : (es : List Extent) (i : ℕ) (e : Extent) → i < length es → e ≡ get_or es i e → drop i es ≡ e ∷ drop (i + 1) es
drop-one es i e less is = let same : suc i ≡ i + 1 = omega arith in subst (λ n. drop i es ≡ e ∷ drop n es) same (drop-cons es i e less is)
